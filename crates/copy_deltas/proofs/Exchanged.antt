-- A copy's delta as bytes, taken by one that asked: it may take it, and ends as the merge of the two.
use Rattle.std.proofs.Common.{◌≡◌, ℕ, ◌+◌, List, [], ◌∷◌, ◌++◌, length, sym, subst}
use Rattle.std.proofs.lemmas.List.{append-nil, append_assoc}
use Rattle.batch_codec.specs.Values.{BatchValue}
use Rattle.cover_ranges.specs.Runs.{Runs, IsCanonical}
use Rattle.content.specs.Content.{Content, IsContent}
use Rattle.content.specs.Joins.{join, Agree}
use Rattle.content.specs.Logs.{IsPlainFrom, IsPlainLog}
use Rattle.content.specs.Copies.{IsCopy}
use Rattle.content_laws.proofs.CopyGrow.{copy_of_longer}
use Rattle.deltas.specs.Deltas.{delta_of}
use Rattle.deltas.specs.Patches.{patch}
use Rattle.deltas.specs.Accepting.{IsFor}
use Rattle.deltas.specs.Exchanges.{IsContentOf, Event, after_all}
use Rattle.deltas.proofs.Accepted.{delta_accepted}
use Rattle.deltas.proofs.CopyEvents.{answer_accepted, answer_merges, answer_leaves_copy, events_know}
use Rattle.delta_bytes.specs.Deltas.{delta_encoding}
use Rattle.copy_deltas.specs.declared.error.PatchError.{PatchError}
use Rattle.copy_deltas.specs.declared.error.PatchError.TheVariants.{OutOfMemory}
use Rattle.copy_deltas.specs.Applying.{TakesDelta, RefusesDelta}
use Rattle.copy_deltas.specs.Exchanging.{CanBeCounted, IsAnswered}
use Rattle.copy_deltas.proofs.Valid.{delta_of_content}
use Rattle.copy_deltas.proofs.Outcomes.{only_memory}

abbrev Log : Type 0
Log = List BatchValue

-- ---- two that agree

pub agreed_takes : (x y : Content) (asked : Runs) → IsContent x → IsCanonical asked → IsFor y asked → Agree y x → CanBeCounted x asked → TakesDelta y (delta_encoding (delta_of x asked)) (delta_of x asked)
agreed_takes x y asked is canonical knows agree counted = record {
  is_delta = delta_of_content x asked is canonical counted.ranges counted.asked_ranges counted.batches;
  known = knows;
  accepted = delta_accepted x y asked is canonical knows agree;
}

pub agreed_memory : (x y : Content) (asked : Runs) (e : PatchError) → IsContent x → IsCanonical asked → IsFor y asked → Agree y x → CanBeCounted x asked → RefusesDelta y (delta_encoding (delta_of x asked)) e → e ≡ OutOfMemory
agreed_memory x y asked e is canonical knows agree counted refuses =
    only_memory y (delta_encoding (delta_of x asked)) (delta_of x asked) e (agreed_takes x y asked is canonical knows agree counted) refuses

-- ---- the log grows

plain_prefix : (n : ℕ) (xs ys : Log) → IsPlainFrom n (xs ++ ys) → IsPlainFrom n xs
plain_prefix n [] ys plain = tt
plain_prefix n (x ∷ xs) ys plain = (plain.0, plain.1, plain_prefix (n + length x.recs) xs ys plain.2)

pub copy_of_more : (c : Content) (log more : Log) → IsContent c → IsPlainLog (log ++ more) → IsCopy c log → IsCopy c (log ++ more)
copy_of_more c log [] is plain copy = subst (IsCopy c) (sym (append-nil log)) copy
copy_of_more c log (b ∷ more) is plain copy =
    let same : (log ++ b ∷ []) ++ more ≡ log ++ (b ∷ more) = append_assoc log (b ∷ []) more in
    let longer : IsPlainLog ((log ++ b ∷ []) ++ more) = subst IsPlainLog (sym same) plain in
    let front : IsPlainLog (log ++ b ∷ []) = plain_prefix 0 (log ++ b ∷ []) more longer in
    subst (IsCopy c) same (copy_of_more c (log ++ b ∷ []) more is longer (copy_of_longer c log b is front copy))

grown : (log more : Log) (c : Content) → IsPlainLog (log ++ more) → IsContentOf log c → IsContentOf (log ++ more) c
grown log more c plain is = (is.0, copy_of_more c log more is.0 plain is.1)

-- ---- an answer, later

pub later_takes : (log more : Log) (x y : Content) (asked : Runs) (events : List Event) → IsAnswered log more x y asked events → TakesDelta (after_all y events) (delta_encoding (delta_of x asked)) (delta_of x asked)
later_takes log more x y asked events is = record {
  is_delta = delta_of_content x asked is.sender_of.0 is.canonical is.counted.ranges is.counted.asked_ranges is.counted.batches;
  known = events_know (log ++ more) y events asked is.happened is.known;
  accepted = answer_accepted (log ++ more) x y asked events is.plain (grown log more x is.plain is.sender_of) (grown log more y is.plain is.receiver_of) is.canonical is.known is.happened;
}

pub later_memory : (log more : Log) (x y : Content) (asked : Runs) (events : List Event) (e : PatchError) → IsAnswered log more x y asked events → RefusesDelta (after_all y events) (delta_encoding (delta_of x asked)) e → e ≡ OutOfMemory
later_memory log more x y asked events e is refuses =
    only_memory (after_all y events) (delta_encoding (delta_of x asked)) (delta_of x asked) e (later_takes log more x y asked events is) refuses

pub later_merges : (log more : Log) (x y : Content) (asked : Runs) (events : List Event) → IsAnswered log more x y asked events → patch (after_all y events) (delta_of x asked) ≡ join (after_all y events) x
later_merges log more x y asked events is =
    answer_merges (log ++ more) x y asked events is.plain (grown log more x is.plain is.sender_of) (grown log more y is.plain is.receiver_of) is.canonical is.known is.happened

pub later_copy : (log more : Log) (x y : Content) (asked : Runs) (events : List Event) → IsAnswered log more x y asked events → IsContentOf (log ++ more) (patch (after_all y events) (delta_of x asked))
later_copy log more x y asked events is =
    answer_leaves_copy (log ++ more) x y asked events is.plain (grown log more x is.plain is.sender_of) (grown log more y is.plain is.receiver_of) is.canonical is.known is.happened
