-- Whether two copies agree, as a test of their batches. The law on `agreement_is_decided` says that it is `Agree` of
-- `content`.
use Rattle.std.specs.Prelude.{ℤ, Bool, true, not, ◌&&◌, ◌||◌, int_lt, int_le, bytes_eq, Option, Some, None, if◌then◌else◌}
use Rattle.std.specs.List.{list_any, list_all}
use Rattle.batch_codec.specs.Values.{BatchValue}
use Rattle.batch_codec.specs.Grammar.{batch_encoding}
use Rattle.batch_codec.specs.Offsets.{first_offset, last_offset}
use Rattle.cover_ranges.specs.Runs.{Runs, has_all}
use Rattle.content.specs.ByOffset.{look_up}
use Rattle.content.specs.Records.{with_common_records}
use Rattle.content.specs.Content.{Content}
use Rattle.content.specs.Joins.{greater_start}

-- whether some offset from `first` to `last` lies in one of the runs
abbrev pub has_any : Runs → (first last : ℤ) → Bool
has_any runs first last = list_any (λ run. int_le run.0 last && int_le first run.1) runs

-- whether a batch lies wholly below the start, or from it on, and all of its span was seen or none
abbrev pub fits : (start : ℤ) → Runs → BatchValue → Bool
fits start seen b =
    if int_lt (first_offset b) start then int_lt (last_offset b) start
    else has_all seen (first_offset b) (last_offset b) || not (has_any seen (first_offset b) (last_offset b))

-- whether two batches are the same in what they have in common: the head, and the records of the same deltas
abbrev pub are_alike : BatchValue → BatchValue → Bool
are_alike x y =
    bytes_eq (batch_encoding (with_common_records x y)) (batch_encoding (with_common_records y x))

abbrev pub is_alike_or_none : BatchValue → Option BatchValue → Bool
is_alike_or_none x (Some y) = are_alike x y
is_alike_or_none x None = true

unfoldable pub agree : Content → Content → Bool
agree a b =
    let start = greater_start a b in
    list_all (fits start b.cover) a.kept
    && (list_all (fits start a.cover) b.kept
    && list_all (λ x. int_lt (first_offset x) start || is_alike_or_none x (look_up first_offset (first_offset x) b.kept)) a.kept)
