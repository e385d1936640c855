-- Where the part that an audit shows lies. A place is where a reference points: a block of memory and a byte in it.
use Rattle.std.specs.Prelude.{ℕ, ◌+◌, ◌*◌, ◌<◌, ◌≡◌, ◌⊎◌}
use Rattle.replies.specs.declared.reply.Reply.{Reply}

-- a part starts at box i of a list: in the list's block, six words of four bytes a box past the list's start
pub record StartsAt (list : ℕ × ℕ) (i : ℕ) (part : ℕ × ℕ) : Type 0 where
  pub block : part.0 ≡ list.0
  pub byte : part.1 ≡ i * 6 * 4 + list.1

-- "where they lie in the placed or free list", and "box indices count the placed list, then the free list":
-- the part of box i, where the placed list has n boxes
pub record LiesAt (n : ℕ) (placed free : ℕ × ℕ) (i : ℕ) (part : ℕ × ℕ) : Type 0 where
  pub in_placed : i < n → StartsAt placed i part
  pub in_free : (k : ℕ) → i ≡ n + k → StartsAt free k part

-- "with 16 or 17 it shows the six words of the faulty box where they lie in the placed or free list". Which words these are,
-- and that the part is otherwise empty, is `shown_of`.
abbrev pub ShownAt : ℕ → ℕ × ℕ → ℕ × ℕ → Reply → ℕ × ℕ → Type 0
ShownAt n placed free r part = (r.number ≡ 16) ⊎ (r.number ≡ 17) → LiesAt n placed free r.detail part
