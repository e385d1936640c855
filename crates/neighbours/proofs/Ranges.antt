-- Laws of searches through a range of indices, where a test is true of none before its start.
use Rattle.std.proofs.Common.{ℕ, ◌≡◌, ◌+◌, ◌-◌, ◌≤◌, ◌<◌, Bool, true, false, Option, Some, MatchOption, IfSome, IsSomeAnd, IsTrue, option_map, sym, ◌∙◌, ap, subst, arith}
use Rattle.std.proofs.Common.{None as Nothing}
use Rattle.std.proofs.lemmas.Option.{none-some, same_Some}
use Rattle.std.specs.Iterator.Runs.{Run, SomeRun, AllItemsGive, IsFirstToGive, ItemsCountUp}
use Rattle.std.proofs.iter.Yields.{nat_range_steps}
use Rattle.std.proofs.iter.runs.Sources.{range_runs}
use denote.Param.Members.{Mut, Called}
use Rattle.lists.specs.Lowest.{lowest, lowest_index}
use Rattle.sections.proofs.Searching.{found_from}

module _ (n from : ℕ) (f : ℕ → Bool) (come : from ≤ lowest n f) where
  -- what `find` says, by a test that agrees in the range
  pub index_from :
      (t : ℕ → Bool) (r : Option ℕ)
      → ((k : ℕ) → from ≤ k → k < n → f k ≡ t k)
      → MatchOption r ((k : ℕ) → from ≤ k → k < n → t k ≡ false) (λ i. (from ≤ i) × (i < n) × (t i ≡ true) × ((k : ℕ) → from ≤ k → k < i → t k ≡ false))
      → r ≡ lowest_index n f
  index_from t Nothing same h = found_from n from f come Nothing (λ k l b. same k l b ∙ h k l b)
  index_from t (Some i) same h =
      found_from n from f come (Some i) (h.0, h.1, same i h.0 h.1 ∙ h.2, λ k l b. same k l (omega (arith, h.1)) ∙ h.3 k l b)

-- the first index from a on and below b whose answer is one
abbrev pub FirstAnswer : {B : Type 0} → (ℕ → Option B) → ℕ → ℕ → Option B → Type 0
FirstAnswer ask a b r =
    MatchOption r ((k : ℕ) → a ≤ k → k < b → ask k ≡ Nothing)
    (λ y. (i : ℕ) × (a ≤ i) × (i < b) × (ask i ≡ Some y) × ((k : ℕ) → a ≤ k → k < i → ask k ≡ Nothing))

-- the item that a run of a range has at the place of k
item : (P : ℕ → Type 0) (k : ℕ) (o : Option ℕ) → option_map (λ y. y) o ≡ Some k → IfSome o P → P k
item P k Nothing e h = absurd (none-some k e)
item P k (Some x) e h = subst P (same_Some x k e) h

item_and : (P : ℕ → Type 0) (k : ℕ) (o : Option ℕ) → option_map (λ y. y) o ≡ Some k → IsSomeAnd o P → P k
item_and P k Nothing e h = absurd (none-some k e)
item_and P k (Some x) e h = subst P (same_Some x k e) h

module _ {F B : Type 0} {g : Mut F (ℕ × Unit {0}) (Option B)} (ask : ℕ → Option B) (f : F) (answers : (x : ℕ) (a : Option B) (q : F) → Called g f (x, tt) a q → (q ≡ f) × (a ≡ ask x)) where
  answered : (p : Run nat_range_steps) (r : Option B)
      → MatchOption r (IsTrue p.whole × AllItemsGive p g f Nothing) (λ y. (i : ℕ) × (i < p.len) × (p.len ≡ i + 1) × IsFirstToGive p g f (Some y) Nothing i)
      → FirstAnswer ask p.from.start p.from.end r
  answered p r m = go r m
    where
      up : ItemsCountUp p p.from.start p.from.end
      up = range_runs p p.seen

      place : (k : ℕ) → p.from.start ≤ k → k - p.from.start < p.len → option_map (λ y. y) (p.at (k - p.from.start)) ≡ Some k
      place k l h = up.3 (k - p.from.start) h ∙ ap Some (omega arith)

      go : (o : Option B) → MatchOption o (IsTrue p.whole × AllItemsGive p g f Nothing) (λ y. (i : ℕ) × (i < p.len) × (p.len ≡ i + 1) × IsFirstToGive p g f (Some y) Nothing i) → FirstAnswer ask p.from.start p.from.end o
      go Nothing h = λ k l b.
          sym (answers k Nothing f
          (item (λ x. Called g f (x, tt) Nothing f) k (p.at (k - p.from.start)) (place k l (omega (arith, up.1 h.0))) (h.1 (λ a y q c. (answers a.0 y q c).0) (k - p.from.start)))).1
      go (Some y) h =
          let first = h.3 (λ a y q c. (answers a.0 y q c).0) in
          let i = p.from.start + h.0 in
          let e : i - p.from.start ≡ h.0 = omega arith in (
            i,
            omega arith,
            omega (arith, up.0),
            sym (answers i (Some y) f (item_and (λ x. Called g f (x, tt) (Some y) f) i (p.at h.0) (up.3 h.0 h.1) first.0)).1,
            λ k l b. sym (answers k Nothing f (item_and (λ x. Called g f (x, tt) Nothing f) k (p.at (k - p.from.start)) (place k l (omega arith)) (first.1 (k - p.from.start) (omega arith)))).1,
          )

  -- what `find_map` says of a range, where each call answers as `ask`
  pub found_map : (s : _) (r : Option B)
      → SomeRun nat_range_steps s (λ p. MatchOption r (IsTrue p.whole × AllItemsGive p g f Nothing) (λ y. (i : ℕ) × (i < p.len) × (p.len ≡ i + 1) × IsFirstToGive p g f (Some y) Nothing i))
      → FirstAnswer ask s.start s.end r
  found_map s r runs = subst (λ x. FirstAnswer ask x.start x.end r) runs.1 (answered runs.0 r runs.2)
