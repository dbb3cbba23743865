-- Whether a copy may take a delta, as a test of their batches and entries; replies are defined by it. The law on
-- `acceptance_is_decided` says that it is `Accepts` of `deltas`.
use Rattle.std.specs.Prelude.{ℤ, List, Bool, true, ◌&&◌, int_lt, int_le, Option, Some, None, if◌then◌else◌}
use Rattle.std.specs.List.{list_all}
use Rattle.batch_codec.specs.Values.{BatchValue}
use Rattle.batch_codec.specs.Offsets.{first_offset, last_offset}
use Rattle.cover_ranges.specs.Runs.{covers}
use Rattle.content.specs.ByOffset.{look_up}
use Rattle.content.specs.Content.{Content}
use Rattle.copy_merge.specs.Agreeing.{agree}
use Rattle.deltas.specs.Entries.{Entry}
use Rattle.deltas.specs.Entries.Entry.{Listed, Sent}
use Rattle.deltas.specs.Deltas.{Delta}
use Rattle.deltas.specs.Accepting.{sent_part}

-- no offset lies behind the end of the batch, if there is one
abbrev pub end_within : List ℤ → Option BatchValue → Bool
end_within offsets (Some b) = list_all (λ o. int_le o (last_offset b)) offsets
end_within offsets None = true

-- what is listed at a base can be of a batch that the copy has seen, or had below its start
abbrev pub list_fits : Content → Entry → Bool
list_fits c (Listed base offsets) =
    if int_lt base c.start then list_all (λ o. int_lt o c.start) offsets
    else covers c.cover base && end_within offsets (look_up first_offset base c.kept)
list_fits c (Sent b) = true

unfoldable pub accepts : Content → Delta → Bool
accepts c e = agree c (sent_part e) && list_all (list_fits c) e.entries
