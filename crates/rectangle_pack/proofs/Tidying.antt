-- Laws of the words past each count, set to zero chamber by chamber.
use Prim.Native.Nat.{ℕ, ◌+◌, ◌*◌, ◌-◌, ◌≤◌, ◌<◌}
use mathlib.Core.Path.{◌≡◌, refl, sym, ap, ◌∙◌}
use mathlib.Core.List.{List, []}
use native.Mathlib.Decide.{ℕ_discrete}
use native.Mathlib.Omega.{arith}
use lib.ListN.{length, take, drop}
use lib.Seq.{ext_get_or}
use Rattle.sections.specs.Sections.{sections}
use Rattle.sections.specs.Leaning.{ZeroPast, Cleared}
use Rattle.lists.proofs.Tabs.{length-tab, getd_tab}
use Rattle.target_bin.specs.declared.chamber.TargetBin.{TargetBin}
use Rattle.target_bin.specs.Chambers.{chamber_at, chamber_count}
use Rattle.target_bin.specs.Leaning.{Shaped, ChangedIn}
use Rattle.target_bin.specs.Store.{part_at, free_at, free_of}
use Rattle.target_bin.proofs.Parts.{length-part_at, lent_part}
use Rattle.rectangle_pack.specs.Leaning.{Tidied}

pub tail_room : (c st : List ℕ) (k : ℕ) (b : TargetBin) → Shaped c st → k < chamber_count c → b ≡ chamber_at c k → b.count * 6 ≤ length (take (k * 768 + 768 - k * 768) (drop (k * 768) st))
tail_room c st k b s h e =
    omega (arith, ap length (lent_part st k), length-part_at st k (omega (arith, s.long)), s.counted.counts k h, ap (λ (x : TargetBin). x.count) e)

pub record Tidying (c st₀ : List ℕ) (i : ℕ) (st : List ℕ) : Type 0 where
  pub most : i ≤ chamber_count c
  pub long : length st ≡ length st₀
  pub same : (k : ℕ) → k < chamber_count c → sections (part_at st k) (chamber_at c k).count ≡ sections (part_at st₀ k) (chamber_at c k).count
  pub zeros : (k : ℕ) → k < i → ZeroPast (chamber_at c k).count (part_at st k)

module _ (c st₀ : List ℕ) where
  pub tidying_none : Tidying c st₀ 0 st₀
  tidying_none = record { most = omega arith; long = refl; same = λ k h. refl; zeros = λ k h. absurd (omega arith) }

  pub shaped_still : (i : ℕ) (st : List ℕ) → Shaped c st₀ → Tidying c st₀ i st → Shaped c st
  shaped_still i st s t = record { few = s.few; whole = s.whole; long = t.long ∙ s.long; counted = s.counted }

  pub tidying_more :
      (i : ℕ) (st st' : List ℕ)
      → Tidying c st₀ i st
      → i < chamber_count c
      → length st' ≡ length st
      → ChangedIn (Cleared (chamber_at c i).count) i st st'
      → Tidying c st₀ (i + 1) st'
  tidying_more i st st' t h long d =
      record {
        most = omega arith;
        long = long ∙ t.long;
        same = λ k l. same_at k (ℕ_discrete k i) ∙ t.same k l;
        zeros = λ k l. zero_at k l (ℕ_discrete k i);
      }
    where
      same_at : (k : ℕ) → Dec (k ≡ i) → sections (part_at st' k) (chamber_at c k).count ≡ sections (part_at st k) (chamber_at c k).count
      same_at k (yes e) = rw e d.here.free
      same_at k (no ne) = ap (λ (w : List ℕ). sections w (chamber_at c k).count) (d.only.others k ne)

      zero_at : (k : ℕ) → k < i + 1 → Dec (k ≡ i) → ZeroPast (chamber_at c k).count (part_at st' k)
      zero_at k l (yes e) = rw e d.here.zeros
      zero_at k l (no ne) = rw (d.only.others k ne) (t.zeros k (omega arith))

  pub tidying_all : (i : ℕ) (st : List ℕ) → Tidying c st₀ i st → chamber_count c ≤ i → Tidied c st₀ st
  tidying_all i st t h =
      record { long = t.long; same = t.same; clean = record { zeros = λ k l. t.zeros k (omega arith) } }

  pub tidied_shaped : (st : List ℕ) → Shaped c st₀ → Tidied c st₀ st → Shaped c st
  tidied_shaped st s t = record { few = s.few; whole = s.whole; long = t.long ∙ s.long; counted = s.counted }

  -- the free sections are the same
  pub tidied_free : (st : List ℕ) → Tidied c st₀ st → free_of c st ≡ free_of c st₀
  unfolding free_of free_at
  tidied_free st t =
      ext_get_or [] (free_of c st) (free_of c st₀)
      (length-tab (chamber_count c) (free_at c st) ∙ sym (length-tab (chamber_count c) (free_at c st₀)))
      (λ k b.
      let h : k < chamber_count c = omega (arith, length-tab (chamber_count c) (free_at c st)) in
      getd_tab (chamber_count c) (free_at c st) k [] h ∙ t.same k h ∙ sym (getd_tab (chamber_count c) (free_at c st₀) k [] h))
