-- The free sections of one chamber, joined as long as two of them join.
use Rattle.std.specs.Prelude.{ℕ, zero, suc, List, Bool, ◌&&◌, cond, ltb, length, set, Option, Some, None}
use Rattle.lists.specs.Lowest.{lowest, any_below}
use Rattle.lists.specs.Tab.{remove_at}
use Rattle.bin_section.specs.declared.section.BinSection.{BinSection}
use Rattle.bin_section.specs.Boxes.{box_at}
use Rattle.neighbours.specs.declared.pairs.Pair.{Pair}
use Rattle.neighbours.specs.Neighbour.{joins_of, joined_box}

-- "two free sections join into one box": that at the first index and that at the second, which is the later one
unfoldable pub joins_with : List BinSection → ℕ → ℕ → Bool
joins_with free i j = ltb i j && joins_of (box_at free i) (box_at free j)

-- the section at an index is the first of such a pair
unfoldable pub joins_later : List BinSection → ℕ → Bool
joins_later free i = any_below (length free) (joins_with free i)

-- "as long as two free sections join into one box"
unfoldable pub some_join : List BinSection → Bool
some_join free = any_below (length free) (joins_later free)

-- "the pair with the lowest first index, then the lowest second"
unfoldable pub pair_of : List BinSection → Pair
pair_of free =
    let i = lowest (length free) (joins_later free) in
    record { first = i; second = lowest (length free) (joins_with free i) }

-- that pair, or none where no two join
unfoldable pub first_pair : List BinSection → Option Pair
first_pair free = cond (some_join free) (Some (pair_of free)) None

-- "the joined box stands at the first, the second is removed, later ones move down"
unfoldable pub joined_at : List BinSection → Pair → List BinSection
joined_at free p = remove_at p.second (set free p.first (joined_box (box_at free p.first) (box_at free p.second)))

-- the free sections afterwards, and "the number of joins"
pub record Joined : Type 0 where
  pub free : List BinSection
  pub joins : ℕ

abbrev pub leaving : List BinSection → ℕ → Joined
leaving free joins = record { free = free; joins = joins }

-- "as long as two free sections join": n steps at most, after so many joins. After each the search begins again.
unfoldable pub join_from : ℕ → ℕ → List BinSection → Joined
join_from zero joins free = leaving free joins
join_from (suc n) joins free = cond (some_join free) (join_from n (suc joins) (joined_at free (pair_of free))) (leaving free joins)

-- each join takes one section away, so as many steps as sections are enough: afterwards no two join (`all_none`, proofs/Steps.antt)
unfoldable pub join_all : List BinSection → Joined
join_all free = join_from (length free) 0 free
