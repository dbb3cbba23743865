-- What tells of each record whether a later one has its key. Words of private clauses.
use Rattle.std.specs.Prelude.{◌≡◌, ℤ, List}
use Rattle.std.specs.List.{filter}
use Rattle.batch_codec.specs.Values.{BatchValue}
use Rattle.content.specs.Cleaning.{is_cleanable}
use Rattle.content.specs.Records.{log_records}
use Rattle.swept_contents.specs.Swept.{is_before}
use Rattle.newest_keys.specs.Newest.{Newest}
use Rattle.cleaning_progress.specs.Progress.{Known, found, newest_of}
use Rattle.cleaner.specs.declared.later.Later.{Later}
use Rattle.cleaner.specs.declared.later.Later.TheVariants as later
use Rattle.cleaner.specs.Latest.{Means}
use Rattle.cleaner.specs.Choice.{Test, outdated_by}

-- whether what is known has a later offset for the record's key
abbrev pub is_known_outdated : Newest → Test
is_known_outdated newest x = is_before x.0 (found newest x.1.key)

abbrev pub outdated_of : {S : Type 0} → Later S → Test
outdated_of (later.Walked m) = outdated_by m
outdated_of (later.Known p) = is_known_outdated (newest_of p.now.newest)

-- it is a map of the latest offset of each key among the batches that lie wholly below the bound, or what is known up to the bound
abbrev pub TellsLater : {S : Type 0} → Later S → Known → ℤ → List BatchValue → Type 0
TellsLater (later.Walked m) k upto bs = Means m (log_records (filter (is_cleanable upto) bs))
TellsLater (later.Known p) k upto bs = (p.now ≡ k) × (k.known_to ≡ upto)
