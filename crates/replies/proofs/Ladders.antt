-- Laws of checks in their order, over any answer, and `checks`: the set by which `search` finds what a ladder of checks answers.
use Prim.Native.Nat.{ℕ, ◌≤◌, ◌<◌}
use mathlib.Core.Path.{◌≡◌, refl, sym, ap, ◌∙◌, subst}
use mathlib.Core.List.{List, [], ◌∷◌, ◌++◌, append-nil}
use mathlib.Core.Bool.{Bool, true, false, not, ◌&&◌, cond}
use native.Mathlib.Omega.{arith}
use borrow.Author.Tests.{lt-ltb, le-ltb, ltb-true, ltb-false, eq-eqb, ne_eqb}
use lib.Dec.{ltb}
use Rattle.std.specs.Prelude.{Option, Some}
use Rattle.std.specs.Prelude.{None as Nothing}
use Rattle.lists.specs.Lowest.{lowest, lowest_index}
use Rattle.lists.proofs.Flags.{cond_yes, cond_no, and_first, and_second}
use Rattle.lists.proofs.Lowests.{None, none_of_lowest, lowest_none}
use Rattle.lists.proofs.LowestIndex.{index_some, index_none}
use Rattle.replies.specs.declared.reply.Reply.{Reply}
use Rattle.replies.specs.Replies.{Check, reply, in_order}

-- ---- the first check

module _ {A B : Type 0} (f : A → B) (d : B) where
  pub fires : (c : Check A) (cs : List (Check A)) → c.fires ≡ true → in_order (c ∷ cs) f d ≡ f c.answer
  unfolding in_order
  fires c cs e = cond_yes (f c.answer) (in_order cs f d) c.fires e

  pub passes : (c : Check A) (cs : List (Check A)) → c.fires ≡ false → in_order (c ∷ cs) f d ≡ in_order cs f d
  unfolding in_order
  passes c cs e = cond_no (f c.answer) (in_order cs f d) c.fires e

  pub all_done : in_order [] f d ≡ d
  unfolding in_order
  all_done = refl

-- the code's test is the check's
pub not_as : (r x b : Bool) → r ≡ x → not r ≡ b → not x ≡ b
not_as r x b e h = ap not (sym e) ∙ h

-- the lowest faulty index, as the code found it, below the number of entries or not
module _ (n m r : ℕ) (f : ℕ → Bool) (all : n ≡ m) (e : r ≡ lowest n f) where
  pub found_at : r < m → ltb (lowest n f) n ≡ true
  found_at h = lt-ltb (lowest n f) n (omega arith)

  pub none_at : m ≤ r → ltb (lowest n f) n ≡ false
  none_at h = le-ltb (lowest n f) n (omega arith)

  pub none_found : m ≤ r → None n f
  none_found h = none_of_lowest n f (omega arith)

-- a check of each entry that does not fire
pub no_fault : (n : ℕ) (f : ℕ → Bool) → ltb (lowest n f) n ≡ false → None n f
no_fault n f e = none_of_lowest n f (ltb-false (lowest n f) n e)

pub none_passes : (n : ℕ) (f : ℕ → Bool) → None n f → ltb (lowest n f) n ≡ false
none_passes n f p = le-ltb (lowest n f) n (omega (arith, lowest_none n f p))

-- a check of each entry, by the answer of the search for the lowest faulty one
module _ (n : ℕ) (f : ℕ → Bool) (r : Option ℕ) (e : r ≡ lowest_index n f) where
  pub index_fires : (i : ℕ) → r ≡ Some i → ltb (lowest n f) n ≡ true
  index_fires i p = let q = index_some n i f (sym e ∙ p) in lt-ltb (lowest n f) n (omega arith)

  pub index_at : (i : ℕ) → r ≡ Some i → i ≡ lowest n f
  index_at i p = sym (index_some n i f (sym e ∙ p)).0

  pub index_below : (i : ℕ) → r ≡ Some i → i < n
  index_below i p = (index_some n i f (sym e ∙ p)).1

  pub index_passes : r ≡ Nothing → ltb (lowest n f) n ≡ false
  index_passes p = le-ltb (lowest n f) n (omega (arith, index_none n f (sym e ∙ p)))

  pub index_none_at : r ≡ Nothing → None n f
  index_none_at p = none_of_lowest n f (omega (arith, index_none n f (sym e ∙ p)))

pub same_detail : (k a b : ℕ) → a ≡ b → reply k a ≡ reply k b
same_detail k a b e = ap (reply k) e

pub answered : (x : Reply) (k a b : ℕ) → x ≡ reply k a → a ≡ b → x ≡ reply k b
answered x k a b e h = e ∙ ap (reply k) h

pub ruleset checks = (fires, passes, all_done, not_as, found_at, none_at, index_fires, index_at, index_passes, eq-eqb, ne_eqb, same_detail, answered)

-- ---- a row of checks, of which the code knows the answer alone: 0 where none fires

-- every check of the row passes
abbrev pub AllPass : {A : Type 0} → List (Check A) → Type 0
AllPass [] = Unit
AllPass (c ∷ cs) = (c.fires ≡ false) × AllPass cs

-- what holds of each answer, where its check fires and those before it do not, and of what is given where none does
abbrev pub OfEach : {A : Type 0} → (A → Type 0) → List (Check A) → A → Type 0
OfEach P [] d = P d
OfEach P (c ∷ cs) d = (c.fires ≡ true → P c.answer) × (c.fires ≡ false → OfEach P cs d)

-- holds of the row's answer
pub of_each : {A : Type 0} (P : A → Type 0) (cs : List (Check A)) (d : A) → OfEach P cs d → P (in_order cs (λ a. a) d)
of_each P [] d e = subst P (sym (all_done (λ a. a) d)) e
of_each P (c ∷ cs) d e = go (λ p. of_each P cs d p) c.fires refl
  where
    go : (OfEach P cs d → P (in_order cs (λ a. a) d)) → (b : Bool) → c.fires ≡ b → P (in_order (c ∷ cs) (λ a. a) d)
    go rest true f = subst P (sym (fires (λ a. a) d c cs f)) (e.0 f)
    go rest false f = subst P (sym (passes (λ a. a) d c cs f)) (rest (e.1 f))

-- a test of each answer of the row. It computes: each check names its number.
abbrev pub each_answer : {A : Type 0} → (A → Bool) → List (Check A) → Bool
each_answer test [] = true
each_answer test (c ∷ cs) = test c.answer && each_answer test cs

pub answer_is : {A : Type 0} (test : A → Bool) (cs : List (Check A)) (r : A) → each_answer test cs ≡ true → test r ≡ true → test (in_order cs (λ a. a) r) ≡ true
unfolding in_order
answer_is test [] r all h = h
answer_is test (c ∷ cs) r all h = go (answer_is test cs r (and_second (test c.answer) (each_answer test cs) all) h) c.fires
  where
    go : test (in_order cs (λ a. a) r) ≡ true → (b : Bool) → test (cond b c.answer (in_order cs (λ a. a) r)) ≡ true
    go rest true = and_first (test c.answer) (each_answer test cs) all
    go rest false = rest

-- no check of the row answers 0, by the number of an answer
abbrev pub numbered : {A : Type 0} → (A → ℕ) → List (Check A) → Bool
numbered number cs = each_answer (λ a. ltb 0 (number a)) cs

-- a row that ends with 0: each of its checks passes
module _ {A B : Type 0} (number : B → ℕ) (f : A → B) (d : B) where
  pub row_passes : (cs : List (Check A)) (t : B) → numbered (λ a. number (f a)) cs ≡ true → t ≡ in_order cs f d → number t ≡ 0 → AllPass cs
  row_passes [] t n e z = tt
  row_passes (c ∷ cs) t n e z = go (row_passes cs t (and_second (ltb 0 (number (f c.answer))) (numbered (λ a. number (f a)) cs) n)) c.fires refl
    where
      go : (t ≡ in_order cs f d → number t ≡ 0 → AllPass cs) → (b : Bool) → c.fires ≡ b → AllPass (c ∷ cs)
      go rest true p =
          let q : 0 < number (f c.answer) = ltb-true _ _ (and_first (ltb 0 (number (f c.answer))) (numbered (λ a. number (f a)) cs) n) in
          absurd (omega (arith, ap number (e ∙ fires f d c cs p)))
      go rest false p = (p, rest (e ∙ passes f d c cs p) z)

-- a row that answers another number: that is the answer, whatever comes after it
module _ {A B : Type 0} (number : A → ℕ) (f : A → B) (d : B) where
  pub row_fires : (cs ds : List (Check A)) (r t : A) → number r ≡ 0 → t ≡ in_order cs (λ a. a) r → (number t ≡ 0 → ⊥) → f t ≡ in_order (cs ++ ds) f d
  row_fires [] ds r t z e ne = absurd (ne (ap number (e ∙ all_done (λ a. a) r) ∙ z))
  row_fires (c ∷ cs) ds r t z e ne = go (row_fires cs ds r t z) c.fires refl
    where
      go : (t ≡ in_order cs (λ a. a) r → (number t ≡ 0 → ⊥) → f t ≡ in_order (cs ++ ds) f d) → (b : Bool) → c.fires ≡ b → f t ≡ in_order (c ∷ (cs ++ ds)) f d
      go rest true p = ap f (e ∙ fires (λ a. a) r c cs p) ∙ sym (fires f d c (cs ++ ds) p)
      go rest false p = rest (e ∙ passes (λ a. a) r c cs p) ne ∙ sym (passes f d c (cs ++ ds) p)

  pub alone_fires : (cs : List (Check A)) (r t : A) → number r ≡ 0 → t ≡ in_order cs (λ a. a) r → (number t ≡ 0 → ⊥) → f t ≡ in_order cs f d
  alone_fires cs r t z e ne = row_fires cs [] r t z e ne ∙ ap (λ (l : List (Check A)). in_order l f d) (append-nil cs)

module _ {A B : Type 0} (f : A → B) (d : B) where
  -- what comes after a row that passes decides
  pub past : (cs ds : List (Check A)) → AllPass cs → in_order (cs ++ ds) f d ≡ in_order ds f d
  past [] ds p = refl
  past (c ∷ cs) ds p = passes f d c (cs ++ ds) p.0 ∙ past cs ds p.1

  pub past_all : (cs : List (Check A)) → AllPass cs → in_order cs f d ≡ d
  past_all cs p = ap (λ (l : List (Check A)). in_order l f d) (sym (append-nil cs)) ∙ past cs [] p ∙ all_done f d

  -- a part of what is decided is decided by the same checks
  pub in_map : {C : Type 0} (g : B → C) (cs : List (Check A)) → g (in_order cs f d) ≡ in_order cs (λ r. g (f r)) (g d)
  unfolding in_order
  in_map g [] = refl
  in_map g (c ∷ cs) = go (in_map g cs) c.fires
    where
      go : g (in_order cs f d) ≡ in_order cs (λ r. g (f r)) (g d) → (b : Bool) → g (cond b (f c.answer) (in_order cs f d)) ≡ cond b (g (f c.answer)) (in_order cs (λ r. g (f r)) (g d))
      go rest true = refl
      go rest false = rest
