-- Which reply an input gets, and that an input longer than the longest may be cut.
use Prim.Native.Nat.{ℕ, ◌+◌, ◌*◌, ◌/◌, ◌%◌, ◌<◌}
use mathlib.Core.Path.{◌≡◌, ap}
use mathlib.Core.Logic.{◌⊎◌, inl, inr}
use mathlib.Core.List.{List}
use mathlib.Core.Bool.{true, false, not, ◌&&◌}
use native.Mathlib.Omega.{arith}
use borrow.Author.Tests.{lt-leb}
use lib.Dec.{eqb, leb}
use lib.ListN.{length, take, drop}
use Rattle.lists.proofs.Flags.{and_no_second}
use Rattle.replies.specs.declared.reply.Reply.{Reply}
use Rattle.replies.specs.Replies.{reply}
use Rattle.replies.proofs.Ladders.{fires}
use Rattle.wire.proofs.Filling.{length-words_in}
use Rattle.audit.specs.Audit.{box_lists_ok, audit_reply}
use Rattle.box_input.specs.declared.InputHead.{InputHead}
use Rattle.std.proofs.Common.{Option, Some, None}
use Rattle.box_input.specs.Input.{input_chamber, input_placed_count, input_free_count, input_placed, input_free, is_input}
use Rattle.box_input.specs.Read.{input_read, input_of}
use Rattle.box_input.proofs.Reading.{none_read, was_read, cut_input}
use Rattle.audit_input.specs.Line.{input_reply, line_of}

module _ (b : List ℕ) where
  reply_none : is_input b ≡ false → reply 1 0 ≡ input_reply b
  unfolding input_reply
  reply_none h = rw h

  reply_input : is_input b ≡ true → audit_reply (input_chamber b) (input_placed b) (input_free b) ≡ input_reply b
  unfolding input_reply
  reply_input h = rw h

  module _ (p₀ f₀ p f : List ℕ) (input : Option InputHead) (e : input_read input p f ≡ input_of b p₀ f₀) where
    pub reply_unread : input ≡ None → reply 1 0 ≡ input_reply b
    reply_unread n = reply_none (none_read b p₀ f₀ p f input e n)

    -- the audit of the words that were read
    pub reply_boxes :
        (said : InputHead) (r : Reply)
        → input ≡ Some said
        → r ≡ audit_reply said.whd (take (said.placed * 6) p) (take (said.free * 6) f)
        → r ≡ input_reply b
    reply_boxes said r n q =
        let w = was_read b p₀ f₀ p f input e said n in
        rw (q, w.placed_words, w.free_words, w.head) (reply_input w.input)

-- ---- a program need read no more than one byte past the longest input

pub cut_line : (b : List ℕ) → line_of (take 24602 b) ≡ line_of b
unfolding line_of
cut_line b = go (cut_input b)
  where
    go : (take 24602 b ≡ b) ⊎ ((is_input (take 24602 b) ≡ false) × (is_input b ≡ false)) → line_of (take 24602 b) ≡ line_of b
    go (inl e) = ap line_of e
    go (inr h) = rw (← reply_none b h.1, ← reply_none (take 24602 b) h.0)

-- ---- the input's limit is the audit's: more than 1,024 boxes get the same reply from it

pub too_many :
    (b : List ℕ)
    → 1024 < input_placed_count b + input_free_count b
    → audit_reply (input_chamber b) (input_placed b) (input_free b) ≡ reply 1 0
unfolding box_lists_ok audit_reply
too_many b h =
    let p = length (input_placed b) in
    let f = length (input_free b) in
    let over : 1024 < p / 6 + f / 6 =
    omega (arith, length-words_in (drop 25 b) (input_placed_count b * 6), length-words_in (drop (25 + input_placed_count b * 24) b) (input_free_count b * 6)) in
    let few = leb (p / 6 + f / 6) 1024 in
    let wrong = and_no_second (eqb (f % 6) 0) few (lt-leb (p / 6 + f / 6) 1024 over) in
    fires _ _ _ _ (ap not (and_no_second (eqb (p % 6) 0) (eqb (f % 6) 0 && few) wrong))
