-- What the tests of an input say, what is known of bytes that were read, and that bytes past the longest input are no input.
use Prim.Native.Nat.{ℕ, ◌+◌, ◌*◌, ◌-◌, ◌≤◌, ◌<◌}
use mathlib.Core.Path.{◌≡◌, refl, sym, ap, ◌∙◌}
use mathlib.Core.Logic.{◌⊎◌, inl, inr}
use mathlib.Core.List.{List, ◌++◌}
use Rattle.std.proofs.Common.{Option, Some, None}
use mathlib.Core.Bool.{Bool, true, false, not, ◌&&◌}
use native.Mathlib.Decide.{dec_lt}
use native.Mathlib.Omega.{arith}
use borrow.Author.Tests.{not-true, not-false, eqb-true, leb-true}
use lib.Dec.{eqb, leb}
use lib.ListN.{length, get_or, take, drop, length-take, length-drop}
use lib.Seq.{take_all, take_at}
use Rattle.lists.proofs.Flags.{and_first, and_second}
use Rattle.wire.specs.Word.{word_at, words_in}
use Rattle.wire.proofs.Filling.{length-words_in}
use Rattle.box_input.specs.declared.InputHead.{InputHead}
use Rattle.box_input.specs.Input.{head_of, input_placed_count, input_free_count, input_placed, input_free, is_input}
use Rattle.box_input.specs.Read.{InputRead, input_read, placed_table, free_table, input_of}

-- ---- the code's parts

-- a part of a slice up to its end
past : (at : ℕ) (b : List ℕ) → take (length b - at) (drop at b) ≡ drop at b
past at b = take_all (length b - at) (drop at b) (simp length-drop (omega arith))

pub words_read : (b w₀ w : List ℕ) (at n : ℕ) → w ≡ words_in (take (length b - at) (drop at b)) n ++ drop n w₀ → w ≡ words_in (drop at b) n ++ drop n w₀
words_read b w₀ w at n e = e ∙ ap (λ (l : List ℕ). words_in l n ++ drop n w₀) (past at b)

-- ---- what is an input

never : (t : Bool) → (t ≡ true → ⊥) → t ≡ false
never true h = absurd (h refl)
never false h = refl

module _ (b : List ℕ) where
  counts :
      is_input b ≡ true
      → (eqb (25 + (input_placed_count b + input_free_count b) * 24) (length b) && leb (input_placed_count b + input_free_count b) 1024)
      ≡ true
  unfolding is_input
  counts h = and_second (eqb (get_or b 4 0) 1) _ (and_second (eqb (word_at b 0 + 4) (length b)) _ h)

  size : is_input b ≡ true → 25 + (input_placed_count b + input_free_count b) * 24 ≡ length b
  size h = eqb-true _ _ (and_first _ (leb (input_placed_count b + input_free_count b) 1024) (counts h))

  few : is_input b ≡ true → input_placed_count b + input_free_count b ≤ 1024
  few h = leb-true _ _ (and_second (eqb (25 + (input_placed_count b + input_free_count b) * 24) (length b)) _ (counts h))

  pub short_none : length b < 25 → is_input b ≡ false
  short_none h = never (is_input b) (λ e. omega (arith, size e))

  long_none : 24601 < length b → is_input b ≡ false
  long_none h = never (is_input b) (λ e. omega (arith, size e, few e))

-- bytes that are cut one past the longest input are the same bytes, or both are no input
pub cut_input : (b : List ℕ) → (take 24602 b ≡ b) ⊎ ((is_input (take 24602 b) ≡ false) × (is_input b ≡ false))
cut_input b = go (dec_lt (length b) 24602)
  where
    go : Dec (length b < 24602) → (take 24602 b ≡ b) ⊎ ((is_input (take 24602 b) ≡ false) × (is_input b ≡ false))
    go (yes l) = inl (take_all 24602 b (omega arith))
    go (no l) = inr (long_none (take 24602 b) (simp length-take (omega arith)), long_none b (omega arith))

-- ---- the code's branches: t is the test's answer, and `said` what the head says

module _ (b : List ℕ) (t : Bool) (e : t ≡ is_input b) (h : not t ≡ false) where
  told : is_input b ≡ true
  told = sym e ∙ not-false t h

  pub told_long : 25 ≤ length b
  told_long = omega (arith, size b told)

  pub told_size : (said : InputHead) → said ≡ head_of b → 25 + (said.placed + said.free) * 24 ≡ length b
  told_size said s = rw s (size b told)

  pub told_few : (said : InputHead) → said ≡ head_of b → said.placed + said.free ≤ 1024
  told_few said s = rw s (few b told)

-- ---- what was read

-- what is known of an input that was read: its words stand at the front of the tables
pub record WasRead (b : List ℕ) (said : InputHead) (p f : List ℕ) : Type 0 where
  pub input : is_input b ≡ true
  pub head : said ≡ head_of b
  pub few_boxes : said.placed + said.free ≤ 1024
  pub placed_words : take (said.placed * 6) p ≡ input_placed b
  pub free_words : take (said.free * 6) f ≡ input_free b

module _ (b p₀ f₀ : List ℕ) where
  read_none : is_input b ≡ false → input_read None p₀ f₀ ≡ input_of b p₀ f₀
  unfolding input_of
  read_none h = rw h

  pub nothing_read : (t : Bool) → t ≡ is_input b → not t ≡ true → input_read None p₀ f₀ ≡ input_of b p₀ f₀
  nothing_read t e h = read_none (sym e ∙ not-true t h)

  read_input : is_input b ≡ true → input_read (Some (head_of b)) (placed_table b p₀) (free_table b f₀) ≡ input_of b p₀ f₀
  unfolding input_of
  read_input h = rw h

  pub boxes_read :
      (t : Bool) (said : InputHead) (p f : List ℕ)
      → t ≡ is_input b
      → not t ≡ false
      → said ≡ head_of b
      → p ≡ words_in (drop 25 b) (said.placed * 6) ++ drop (said.placed * 6) p₀
      → f ≡ words_in (drop (25 + said.placed * 24) b) (said.free * 6) ++ drop (said.free * 6) f₀
      → input_read (Some said) p f ≡ input_of b p₀ f₀
  boxes_read t said p f e h s ep ef = rw (ep, ef, s) (read_input (sym e ∙ not-false t h))

  module _ (p f : List ℕ) (input : Option InputHead) (e : input_read input p f ≡ input_of b p₀ f₀) where
    pub none_read : input ≡ None → is_input b ≡ false
    none_read n =
        never (is_input b) (λ h. let q : None ≡ Some (head_of b) = sym n ∙ ap (λ (r : InputRead). r.answer) (e ∙ sym (read_input h)) in cc)

    pub was_read : (said : InputHead) → input ≡ Some said → WasRead b said p f
    was_read said n = go (is_input b) refl
      where
        go : (t : Bool) → is_input b ≡ t → WasRead b said p f
        go true h =
            let q = e ∙ sym (read_input h) in
            let a : Some said ≡ Some (head_of b) = sym n ∙ ap (λ (r : InputRead). r.answer) q in
            let s : said ≡ head_of b = cc in
            record {
              input = h;
              head = s;
              few_boxes = rw s (few b h);
              placed_words = rw (s, ap (λ (r : InputRead). r.placed) q) (take_at (input_placed b) _ _ (length-words_in (drop 25 b) _));
              free_words = rw (s, ap (λ (r : InputRead). r.free) q) (take_at (input_free b) _ _ (length-words_in _ _));
            }
        go false h = let q : Some said ≡ None = sym n ∙ ap (λ (r : InputRead). r.answer) (e ∙ sym (read_none h)) in absurd (cc)
