-- What is read is small: at most 63 coils, and each line's number, each coil's id and each slip's word is below 2 ^ 32.
use Rattle.std.proofs.Common.{Bool, true, false, Option, Some, None, ◌≡◌, ℕ, ◌+◌, ◌*◌, ◌-◌, ◌^◌, ◌<◌, ◌≤◌, List, [], ◌∷◌, ◌++◌, length, cond, ltb, eqb, not, ◌&&◌, Result, Ok, Err, arith}
use Rattle.std.specs.Prelude.{codes, option_and_then, ok_or, slice_get}
use Rattle.std.specs.Result.{result_map_both}
use Rattle.std.specs.Str.{bytes_eq}
use native.Mathlib.Decide.{dec_lt}
use borrow.Author.Tests.{ltb-true, ne_eqb, eq-eqb, lt-ltb, le-ltb}
use lib.ListN.{take, length-append, length-take}
use mathlib.Core.Path.{refl}
use Rattle.std.proofs.lemmas.List.Sums.{count_by-le-length}
use Rattle.lists.specs.Sort.{Each, none, also}
use Rattle.grouped_rects_to_place.specs.declared.rect_to_place.RectToPlace.{RectToPlace}
use Rattle.plan_list.specs.declared.slip.Slip.{Slip}
use Rattle.plan_list.specs.declared.slip.Slip.TheVariants.{Neither, ChamberWords, CoilWords, NoNumber, ManyChambers, ManyCoils, TooLong, NoGroup}
use Rattle.plan_list.specs.declared.slip.SlipAt.{SlipAt}
use Rattle.plan_list.specs.declared.line_said.Said.{Said}
use Rattle.plan_list.specs.declared.line_said.Said.TheVariants.{Nothing, Chamber, Coil}
use Rattle.plan_list.specs.declared.list.OnLine.{OnLine}
use Rattle.plan_list.specs.declared.list.PlanList.{PlanList}
use Rattle.plan_list.specs.declared.list.Slipped.{Slipped}
use Rattle.plan_list.specs.Number.{is_digit, with_digit, said_after, said}
use Rattle.plan_list.specs.Said.{number_at, group_said, group_at, coil_from, chamber_said, coil_said, line_said, ◌>>=◌}
use Rattle.plan_list.specs.Words.{is_newline, lines_of, uncommented, words_of}
use Rattle.plan_list.specs.List.{on_line, slip_at, slipped, next_line, added, slipped_in, add_line, add_lines, line_at, no_lines, read_of}
use Rattle.plan_list.proofs.Lines.{lines_few}

abbrev Small : ℕ → Type 0
Small n = n < 2 ^ 32

-- the number that a slip has, if any
abbrev pub SmallSlip : Slip → Type 0
SmallSlip (NoNumber word) = word < 2 ^ 32
SmallSlip Neither = 0 < 1
SmallSlip ChamberWords = 0 < 1
SmallSlip CoilWords = 0 < 1
SmallSlip ManyChambers = 0 < 1
SmallSlip ManyCoils = 0 < 1
SmallSlip TooLong = 0 < 1
SmallSlip NoGroup = 0 < 1

abbrev pub SmallLine : {T : Type 0} → OnLine T → Type 0
SmallLine e = e.line < 2 ^ 32

pub record SmallCoil (c : OnLine RectToPlace) : Type 0 where
  pub id : c.item.id < 2 ^ 32
  pub line : c.line < 2 ^ 32

pub record SmallList (l : PlanList) : Type 0 where
  pub chambers : Each SmallLine l.chambers.items
  pub coils : Each SmallCoil l.coils.items
  pub few : length l.coils.items ≤ 63

pub record SmallSlipAt (at : SlipAt) : Type 0 where
  pub line : at.line < 2 ^ 32
  pub slip : SmallSlip at.slip

pub record SmallSlipped (s : Slipped) : Type 0 where
  pub list : SmallList s.list
  pub at : SmallSlipAt s.at

-- ---- what holds of an answer that is there, and of either answer

abbrev SomeHas : {A : Type 0} → (A → Type 0) → Option A → Type 0
SomeHas P (Some x) = P x
SomeHas P None = 0 < 1

abbrev pub Has : {A E : Type 0} → (A → Type 0) → (E → Type 0) → Result A E → Type 0
Has P S (Ok x) = P x
Has P S (Err e) = S e

then_some : {A B : Type 0} (P : A → Type 0) (Q : B → Type 0) (f : A → Option B) (o : Option A) → SomeHas P o → ((x : A) → P x → SomeHas Q (f x)) → SomeHas Q (option_and_then f o)
then_some P Q f (Some x) p k = k x p
then_some P Q f None p k = omega arith

some_then : {A B : Type 0} (Q : B → Type 0) (f : A → Option B) (o : Option A) → ((x : A) → SomeHas Q (f x)) → SomeHas Q (option_and_then f o)
some_then Q f (Some x) k = k x
some_then Q f None k = omega arith

or_has : {A E : Type 0} (P : A → Type 0) (S : E → Type 0) (o : Option A) (e : E) → SomeHas P o → S e → Has P S (ok_or o e)
or_has P S (Some x) e p s = p
or_has P S None e p s = s

then_has : {A B E : Type 0} (P : A → Type 0) (Q : B → Type 0) (S : E → Type 0) (r : Result A E) (f : A → Result B E) → Has P S r → ((x : A) → P x → Has Q S (f x)) → Has Q S (r >>= f)
then_has P Q S (Ok x) f p k = k x p
then_has P Q S (Err e) f p k = p

map_has :
    {A B E D : Type 0} (P : A → Type 0) (Q : B → Type 0) (S : E → Type 0) (R : D → Type 0) (f : A → B) (g : E → D) (r : Result A E)
    → Has P S r
    → ((x : A) → P x → Q (f x))
    → ((e : E) → S e → R (g e))
    → Has Q R (result_map_both f g r)
map_has P Q S R f g (Ok x) p k h = k x p
map_has P Q S R f g (Err e) p k h = h e p

either_has : {A E : Type 0} (P : A → Type 0) (S : E → Type 0) (t : Bool) (x y : Result A E) → Has P S x → Has P S y → Has P S (cond t x y)
either_has P S true x y p q = p
either_has P S false x y p q = q

-- ---- numbers

digit_small : (d : Bool) (m : ℕ) → SomeHas Small (cond (d && ltb m (2 ^ 32)) (Some m) None)
digit_small false m = omega arith
digit_small true m = go (ltb m (2 ^ 32)) refl
  where
    go : (t : Bool) → ltb m (2 ^ 32) ≡ t → SomeHas Small (cond t (Some m) None)
    go true e = ltb-true m (2 ^ 32) e
    go false e = omega arith

after_small : (n : ℕ) (bs : List ℕ) → Small n → SomeHas Small (said_after n bs)
after_small n [] h = h
after_small n (b ∷ bs) h =
    then_some Small Small (λ m. said_after m bs) (with_digit n b) (digit_small (is_digit b) (n * 10 + (b - 48))) (λ m p. after_small m bs p)

said_small : (word : List ℕ) → SomeHas Small (said word)
said_small [] = omega arith
said_small (b ∷ bs) = after_small 0 (b ∷ bs) (omega arith)

number_small : (words : List (List ℕ)) (k : ℕ) → k < 8 → Has Small SmallSlip (number_at words k)
number_small words k h =
    or_has Small SmallSlip (option_and_then said (slice_get words k)) (NoNumber (k + 1)) (some_then Small said (slice_get words k) said_small) (omega arith)

abbrev Any : {A : Type 0} → A → Type 0
Any x = 0 < 1

group_any : (words : List (List ℕ)) → Has Any SmallSlip (group_at words)
group_any words = go (option_and_then group_said (slice_get words 2))
  where
    go : (o : Option ℕ) → Has Any SmallSlip (ok_or o NoGroup)
    go (Some x) = omega arith
    go None = omega arith

-- ---- a line. Of a coil, fewer than 63 were read before.

abbrev SmallSaid : ℕ → Said → Type 0
SmallSaid n Nothing = 0 < 1
SmallSaid n (Chamber b) = 0 < 1
SmallSaid n (Coil c) = (c.id < 2 ^ 32) × (n < 63)

module _ (words : List (List ℕ)) where
  chamber_small : (n m : ℕ) → Has (SmallSaid m) SmallSlip (chamber_said words n)
  chamber_small n m =
      either_has _ SmallSlip (not (eqb (length words) 5)) _ _ (omega arith)
      (either_has _ SmallSlip (eqb n 16) _ _ (omega arith)
      (then_has Small (SmallSaid m) SmallSlip (number_at words 1) _ (number_small words 1 (omega arith)) λ id p.
      then_has Small (SmallSaid m) SmallSlip (number_at words 2) _ (number_small words 2 (omega arith)) λ w q.
      then_has Small (SmallSaid m) SmallSlip (number_at words 3) _ (number_small words 3 (omega arith)) λ h r.
      then_has Small (SmallSaid m) SmallSlip (number_at words 4) _ (number_small words 4 (omega arith)) λ d s. omega arith))

  coil_small : (n : ℕ) → n ≤ 63 → Has (SmallSaid n) SmallSlip (coil_said words n)
  coil_small n h = either_has _ SmallSlip (not (eqb (length words) 6)) _ _ (omega arith) (go (dec_lt n 63))
    where
      go : Dec (n < 63) → Has (SmallSaid n) SmallSlip (cond (eqb n 63) (Err ManyCoils) (coil_from words))
      go (no l) = rw (eq-eqb n 63 (omega arith)) (omega arith)
      go (yes l) =
          rw (ne_eqb n 63 (omega arith))
          (then_has Small (SmallSaid n) SmallSlip (number_at words 1) _ (number_small words 1 (omega arith)) λ id p.
          then_has Any (SmallSaid n) SmallSlip (group_at words) _ (group_any words) λ g a.
          then_has Small (SmallSaid n) SmallSlip (number_at words 3) _ (number_small words 3 (omega arith)) λ w q.
          then_has Small (SmallSaid n) SmallSlip (number_at words 4) _ (number_small words 4 (omega arith)) λ t r.
          then_has Small (SmallSaid n) SmallSlip (number_at words 5) _ (number_small words 5 (omega arith)) λ d s. (p, l))

line_small : (words : List (List ℕ)) (chambers coils : ℕ) → coils ≤ 63 → Has (SmallSaid coils) SmallSlip (line_said words chambers coils)
line_small [] chambers coils h = omega arith
line_small (first ∷ rest) chambers coils h =
    either_has _ SmallSlip (bytes_eq first (codes "chamber")) _ _ (chamber_small (first ∷ rest) chambers coils)
    (either_has _ SmallSlip (bytes_eq first (codes "coil")) _ _ (coil_small (first ∷ rest) coils h) (omega arith))

-- ---- the list

each_push : {A : Type 0} {P : A → Type 0} {xs : List A} (x : A) → Each P xs → P x → Each P (xs ++ x ∷ [])
each_push x none p = also p none
each_push x (also q qs) p = also q (each_push x qs p)

-- the list with what a line says, and that one line more was looked at
abbrev SmallNext : PlanList → PlanList → Type 0
SmallNext l l' = SmallList l' × (l'.lines ≡ l.lines + 1)

module _ (l : PlanList) (h : l.lines + 1 < 2 ^ 32) (m : SmallList l) where
  next_small : SmallList (next_line l)
  next_small = record { chambers = m.chambers; coils = m.coils; few = m.few }

  added_small : (s : Said) → SmallSaid (length l.coils.items) s → SmallNext l (added (next_line l) s)
  added_small Nothing p = (next_small, refl)
  added_small (Chamber b) p = (record { chambers = each_push (on_line (l.lines + 1) b) m.chambers h; coils = m.coils; few = m.few }, refl)
  added_small (Coil c) p = (
    record {
      chambers = m.chambers;
      coils = each_push (on_line (l.lines + 1) c) m.coils (record { id = p.0; line = h });
      few = omega (arith, length-append l.coils.items (on_line (l.lines + 1) c ∷ []), p.1);
    },
    refl,
  )

  slipped_small : (slip : Slip) → SmallSlip slip → SmallSlipped (slipped_in (next_line l) slip)
  slipped_small slip s = record { list = next_small; at = record { line = h; slip = s } }

lines_small : (texts : List (List ℕ)) (l : PlanList) → l.lines + length texts < 2 ^ 32 → SmallList l → Has SmallList SmallSlipped (add_lines texts l)
unfolding add_lines
lines_small [] l h m = m
lines_small (text ∷ texts) l h m =
    then_has (SmallNext l) SmallList SmallSlipped (add_line text l) (add_lines texts)
    (map_has (SmallSaid (length l.coils.items)) (SmallNext l) SmallSlip SmallSlipped (added (next_line l)) (slipped_in (next_line l)) _
    (line_small (words_of (uncommented text)) (length l.chambers.items) (length l.coils.items) m.few)
    (added_small l (omega arith) m) (slipped_small l (omega arith) m))
    (λ l' n. lines_small texts l' (omega (arith, n.1)) n.0)

none_small : SmallList no_lines
none_small = record { chambers = none; coils = none; few = omega arith }

slip_line_small : (text : List ℕ) → line_at text 65536 < 2 ^ 32
slip_line_small text = omega (arith, count_by-le-length is_newline (take 65536 text), length-take 65536 text)

pub read_small : (text : List ℕ) → Has SmallList SmallSlipped (read_of text)
unfolding read_of
read_small text = go (dec_lt 65536 (length text))
  where
    go : Dec (65536 < length text) → Has SmallList SmallSlipped (cond (ltb 65536 (length text)) (Err (slipped no_lines (slip_at (line_at text 65536) TooLong))) (add_lines (lines_of text) no_lines))
    go (yes l) = rw (lt-ltb 65536 (length text) l) (record { list = none_small; at = record { line = slip_line_small text; slip = omega arith } })
    go (no l) = rw (le-ltb 65536 (length text) (omega arith)) (lines_small (lines_of text) no_lines (omega (arith, lines_few text)) none_small)
