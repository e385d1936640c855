-- "It writes one line: `WHOLE`, `OUTSIDE n`, `SHARED n`, `GAP` for 0, 16, 17, 18 (n the index in decimal), or `BAD` for anything else"
use Rattle.std.specs.Prelude.{ℕ, ◌≤◌, ◌≡◌, List, [], ◌++◌, ◌||◌, cond, eqb, codes, length, take, drop}
use Rattle.replies.specs.declared.reply.Reply.{Reply}
use Rattle.replies.specs.Replies.{reply}
use Rattle.audit.specs.Audit.{audit_reply}
use Rattle.box_input.specs.Input.{input_chamber, input_placed, input_free, is_input}
use Rattle.text.specs.Decimal.{item}

-- what the audit answers to the chamber and the boxes. What is no input is answered as a table's wrong length is, and so would the audit
-- itself answer more than 1,024 boxes (`too_many` of the proofs).
unfoldable pub input_reply : List ℕ → Reply
input_reply b = cond (is_input b) (audit_reply (input_chamber b) (input_placed b) (input_free b)) (reply 1 0)

-- by reply number
abbrev pub name_of : ℕ → List ℕ
name_of number =
    cond (eqb number 0) (codes "WHOLE")
    (cond (eqb number 16) (codes "OUTSIDE")
    (cond (eqb number 17) (codes "SHARED") (cond (eqb number 18) (codes "GAP") (codes "BAD"))))

-- "n the index": a space and the number, of 16 and 17
abbrev pub index_of : Reply → List ℕ
index_of r = cond (eqb r.number 16 || eqb r.number 17) (item (codes " ") r.detail) []

-- with "a newline"
unfoldable pub line_for : Reply → List ℕ
line_for r = name_of r.number ++ index_of r ++ codes "\n"

-- the line that the program writes to the bytes it reads
unfoldable pub line_of : List ℕ → List ℕ
line_of bytes = line_for (input_reply bytes)

-- the first r bytes of the buffer are the line, and the others are as they were
pub record Wrote (line before after : List ℕ) (r : ℕ) : Type 0 where
  pub count : r ≡ length line
  pub room : r ≤ length after
  pub bytes : take r after ≡ line
  pub rest : drop r after ≡ drop r before
