-- The line is short: at most 19 bytes.
use Prim.Native.Nat.{ℕ, ◌^◌, ◌≤◌, ◌<◌}
use mathlib.Core.Path.{◌≡◌}
use mathlib.Core.List.{List}
use mathlib.Core.Bool.{Bool, true, false, not, cond, ◌||◌}
use native.Mathlib.Omega.{arith}
use borrow.Author.Tests.{ltb-true, not-false}
use lib.Dec.{eqb, ltb}
use lib.ListN.{length, length-append}
use Rattle.std.specs.Prelude.{codes}
use Rattle.replies.specs.declared.reply.Reply.{Reply}
use Rattle.replies.specs.Replies.{reply}
use Rattle.replies.proofs.Ladders.{of_each}
use Rattle.bin_section.specs.declared.width_height_depth.WidthHeightDepth.{WidthHeightDepth}
use Rattle.audit.specs.Audit.{audit_boxes, box_lists_ok, audit_checks, audit_reply}
use Rattle.audit.proofs.TwoLists.{boxes_length}
use Rattle.audit.proofs.Replying.{box_lengths}
use Rattle.box_input.specs.Input.{input_chamber, input_placed, input_free, is_input}
use Rattle.text.specs.Decimal.{decimal}
use Rattle.text.proofs.Decimals.{decimal_most}
use Rattle.audit_input.specs.Line.{name_of, index_of, input_reply, line_for, line_of}

either_most : (t : Bool) (x y : List ℕ) (m : ℕ) → length x ≤ m → length y ≤ m → length (cond t x y) ≤ m
either_most true x y m p q = p
either_most false x y m p q = q

name_most : (n : ℕ) → length (name_of n) ≤ 7
name_most n =
    either_most (eqb n 0) _ _ 7 (omega arith)
    (either_most (eqb n 16) _ _ 7 (omega arith)
    (either_most (eqb n 17) _ _ 7 (omega arith) (either_most (eqb n 18) _ _ 7 (omega arith) (omega arith))))

index_most : (r : Reply) → r.detail < 2 ^ 32 → length (index_of r) ≤ 11
index_most r h =
    either_most (eqb r.number 16 || eqb r.number 17) _ _ 11 (omega (arith, length-append (codes " ") (decimal r.detail), decimal_most r.detail h)) (omega arith)

reply_short : (r : Reply) → r.detail < 2 ^ 32 → length (line_for r) ≤ 19
unfolding line_for
reply_short r h = simp (length-append) (omega (arith, name_most r.number, index_most r h))

abbrev Small : Reply → Type 0
Small r = r.detail < 2 ^ 32

plain : (n : ℕ) → Small (reply n 0)
plain n = omega arith

-- a detail is the index of one of 1,024 boxes, or 0
module _ (whd : WidthHeightDepth) (placed free : List ℕ) where
  index_small : not (box_lists_ok (length placed) (length free)) ≡ false → {i : ℕ} → ltb i (length (audit_boxes placed free)) ≡ true → i < 2 ^ 32
  index_small a {i} l =
      omega (arith, ltb-true i _ l, boxes_length placed free, (box_lengths (length placed) (length free) (not-false _ a)).few)

  detail_small : Small (audit_reply whd placed free)
  unfolding audit_reply
  detail_small =
      of_each Small (audit_checks whd placed free (audit_boxes placed free)) (reply 0 0)
      (λ _. plain 1, λ a. (λ _. plain 2, λ _. (λ l. index_small a l, λ _. (λ l. index_small a l, λ _. (λ _. plain 18, λ _. plain 0)))))

pub line_short : (bytes : List ℕ) → length (line_of bytes) ≤ 19
unfolding line_of input_reply
line_short b = go (is_input b)
  where
    go : (t : Bool) → length (line_for (cond t (audit_reply (input_chamber b) (input_placed b) (input_free b)) (reply 1 0))) ≤ 19
    go true = reply_short _ (detail_small (input_chamber b) (input_placed b) (input_free b))
    go false = reply_short (reply 1 0) (omega arith)
