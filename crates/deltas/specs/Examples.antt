-- Small deltas, over the contents of `content`'s examples: a log of four batches, a=1, b=2, a deleted,
-- b=3, at offsets 0 to 3.
use Rattle.std.specs.Prelude.{pos, [], ◌∷◌}
use Rattle.cover_ranges.specs.Runs.{Runs}
use Rattle.content.specs.Content.{Content, empty, add, cut}
use Rattle.content.specs.Examples.{batch_0, batch_1, batch_2, batch_3, copy_of_four, cleaned_three}
use Rattle.deltas.specs.Entries.Entry.{Listed, Sent}
use Rattle.deltas.specs.Deltas.{Delta, delta_of}

-- offsets 0 and 1
abbrev pub zero_and_one : Runs
zero_and_one = (pos 0, pos 1) ∷ []

-- a copy that has batches 0 and 1, and asks for both
abbrev pub copy_of_two : Content
copy_of_two = add (add empty batch_0) batch_1

-- what a copy of all four tells it
abbrev pub delta_of_four : Delta
delta_of_four = delta_of copy_of_four zero_and_one

-- what a copy of the first three tells it, from which a=1 and a's tombstone were cleaned away
abbrev pub delta_of_cleaned : Delta
delta_of_cleaned = delta_of cleaned_three zero_and_one

-- the first one with a wrong list: batch 0 would have a record at offset 1
abbrev pub wrong_delta : Delta
wrong_delta = record delta_of_four {
  entries = Listed (pos 0) (pos 0 ∷ pos 1 ∷ []) ∷ Sent batch_2 ∷ Sent batch_3 ∷ [];
}

-- the copy of all four, from offset 2 on
abbrev pub later_copy : Content
later_copy = cut (pos 2) copy_of_four
