-- Where the part of a box lies: in the placed list, or past its boxes in the free list.
use Prim.Native.Nat.{ℕ, ◌+◌, ◌*◌, ◌-◌, ◌≤◌, ◌<◌}
use mathlib.Core.Path.{◌≡◌}
use mathlib.Core.Logic.{inl, inr}
use mathlib.Core.Bool.{false}
use native.Mathlib.Omega.{arith}
use Rattle.lists.proofs.Flags.{true_false}
use Rattle.replies.specs.declared.reply.Reply.{Reply}
use Rattle.audit.specs.Place.{LiesAt, ShownAt}
use Rattle.audit.proofs.Replying.{names_box}

module _ (n : ℕ) (placed free : ℕ × ℕ) where
  pub lies_placed : (i : ℕ) (part : ℕ × ℕ) → i < n → part.0 ≡ placed.0 → part.1 ≡ i * 6 * 4 + placed.1 → LiesAt n placed free i part
  lies_placed i part h b o =
      record {
        in_placed = λ _. record { block = b; byte = o };
        in_free = λ k e. absurd (omega arith);
      }

  pub lies_free : (i : ℕ) (part : ℕ × ℕ) (first : ℕ) → first ≡ n → first ≤ i → part.0 ≡ free.0 → part.1 ≡ (i - first) * 6 * 4 + free.1 → LiesAt n placed free i part
  lies_free i part first f h b o =
      record {
        in_placed = λ l. absurd (omega arith);
        in_free = λ k e. record { block = b; byte = omega arith };
      }

  -- where no box is named, nothing is said
  pub shown_silent : (r : Reply) (part : ℕ × ℕ) → names_box r ≡ false → ShownAt n placed free r part
  shown_silent r part h (inl e) = absurd (true_false (rw e at h))
  shown_silent r part h (inr e) = absurd (true_false (rw e at h))
