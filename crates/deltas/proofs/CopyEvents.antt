-- What may happen to a copy of a log leaves it a copy of the log, and it goes on knowing what it knew. So
-- an answer to what it asked earlier is for it later too, and has the effect of a merge.
use Rattle.std.proofs.Common.{◌≡◌, ℤ, Bool, true, false, cond, ◌⊎◌, inl, inr, List, [], ◌∷◌, refl, sym, ap, subst, ◌∙◌, true≢false}
use Rattle.std.specs.Prelude.{Some}
use Rattle.batch_codec.specs.Values.{BatchValue}
use Rattle.batch_codec.specs.Offsets.{first_offset}
use Rattle.cover_ranges.specs.Runs.{Runs, IsCanonical}
use Rattle.content.specs.ByOffset.{look_up}
use Rattle.content.specs.Content.{Content, IsContent, IsAcceptedStart, HasSeenNone, has_seen_all, with_batch, add, cut}
use Rattle.content.specs.Joins.{join, Agree}
use Rattle.content.specs.Logs.{IsPlainLog}
use Rattle.content_laws.proofs.ContentSteps.{content_with_batch, content_cut, content_clean, content_part, content_join}
use Rattle.content_laws.proofs.PlainLogs.{log_batch}
use Rattle.content_laws.proofs.CopyFacts.{all_or_none}
use Rattle.content_laws.proofs.CopyAdd.{copy_with_batch}
use Rattle.content_laws.proofs.CopyClean.{copy_of_clean, copy_of_part}
use Rattle.content_laws.proofs.CopyCut.{copy_of_cut}
use Rattle.content_laws.proofs.CopyStarts.{accepted_boundary, accepted_in_range}
use Rattle.content_laws.proofs.CopyJoin.{copies_agree, copy_of_join}
use Rattle.content_laws.proofs.JoinLaws.{agree_sym, join_assoc, join_comm_agree, join_agrees}
use Rattle.deltas.specs.Deltas.{delta_of}
use Rattle.deltas.specs.Patches.{patch}
use Rattle.deltas.specs.Accepting.{IsKnown, IsFor, Accepts}
use Rattle.deltas.specs.Exchanges.{IsContentOf, Event, after, MayHappen, after_all, MayAllHappen}
use Rattle.deltas.specs.Exchanges.Event.{Delivered, Cleaned, CleanedPart, Trimmed, Merged, MergedInto, Patched}
use Rattle.deltas.proofs.DeltaMerges.{patch_is_join_agree}
use Rattle.deltas.proofs.Accepted.{delta_accepted}
use Rattle.deltas.proofs.Known.{add_knows, cut_knows, join_knows_left, join_knows_right, patch_knows}

abbrev Log : Type 0
Log = List BatchValue

added : (log : Log) (c : Content) (b : BatchValue) → IsPlainLog log → IsContentOf log c → look_up first_offset (first_offset b) log ≡ Some b → IsContentOf log (add c b)
added log c b plain is there = by (has_seen_all c b) refl (all_or_none c log is.0 plain is.1 b there)
  where
    more : HasSeenNone c b → IsContentOf log (with_batch c b)
    more none =
        let content : IsContent (with_batch c b) = content_with_batch c b is.0 (log_batch 0 log b plain there) none in
        (content, copy_with_batch c b log is.0 plain is.1 there none content)

    by : (t : Bool) → has_seen_all c b ≡ t → (has_seen_all c b ≡ true) ⊎ HasSeenNone c b → IsContentOf log (cond t c (with_batch c b))
    by true e which = is
    by false e (inl all) = absurd (true≢false (sym all ∙ e))
    by false e (inr none) = more none

trimmed : (log : Log) (c : Content) (start : ℤ) → IsPlainLog log → IsContentOf log c → IsAcceptedStart c start → IsContentOf log (cut start c)
trimmed log c start plain is accepted =
    let content : IsContent (cut start c) = content_cut c start is.0 accepted.from_start (accepted_in_range c log is.0 plain is.1 start accepted) in
    (content, copy_of_cut c start log is.0 plain is.1 (accepted_boundary c log is.0 plain is.1 start accepted) accepted.from_start content)

joined : (log : Log) (a b : Content) → IsPlainLog log → IsContentOf log a → IsContentOf log b → IsContentOf log (join a b)
joined log a b plain is_a is_b = (content_join a b is_a.0 is_b.0, copy_of_join a b log is_a.0 is_b.0 plain is_a.1 is_b.1)

agreeing : (log : Log) (a b : Content) → IsPlainLog log → IsContentOf log a → IsContentOf log b → Agree a b
agreeing log a b plain is_a is_b = copies_agree a b log is_a.0 is_b.0 plain is_a.1 is_b.1

-- a copy's delta is a merge with it
pub copy_patch : (log : Log) (x y : Content) (asked : Runs) → IsPlainLog log → IsContentOf log x → IsContentOf log y → IsCanonical asked → IsFor y asked → patch y (delta_of x asked) ≡ join y x
copy_patch log x y asked plain is_x is_y canonical knows = patch_is_join_agree x y asked is_x.0 canonical knows (agreeing log y x plain is_y is_x)

pub copy_takes : (log : Log) (x y : Content) (asked : Runs) → IsPlainLog log → IsContentOf log x → IsContentOf log y → IsCanonical asked → IsFor y asked → Accepts y (delta_of x asked)
copy_takes log x y asked plain is_x is_y canonical knows = delta_accepted x y asked is_x.0 canonical knows (agreeing log y x plain is_y is_x)

pub copy_patched : (log : Log) (x y : Content) (asked : Runs) → IsPlainLog log → IsContentOf log x → IsContentOf log y → IsCanonical asked → IsFor y asked → IsContentOf log (patch y (delta_of x asked))
copy_patched log x y asked plain is_x is_y canonical knows = subst (IsContentOf log) (sym (copy_patch log x y asked plain is_x is_y canonical knows)) (joined log y x plain is_y is_x)

-- ---- events

event_keeps : (log : Log) (c : Content) (event : Event) → IsPlainLog log → IsContentOf log c → MayHappen log c event → IsContentOf log (after c event)
event_keeps log c (Delivered b) plain is may = added log c b plain is may
event_keeps log c (Cleaned upto tomb_before) plain is may = (content_clean upto tomb_before c is.0, copy_of_clean upto tomb_before c log is.0 plain is.1)
event_keeps log c (CleanedPart p) plain is may = (content_part p c is.0, copy_of_part p c log is.0 plain is.1)
event_keeps log c (Trimmed start) plain is may = trimmed log c start plain is may
event_keeps log c (Merged other) plain is may = joined log c other plain is may
event_keeps log c (MergedInto other) plain is may = joined log other c plain may is
event_keeps log c (Patched other asked) plain is may = copy_patched log other c asked plain may.0 is may.1 may.2

event_knows : (log : Log) (c : Content) (event : Event) (o : ℤ) → MayHappen log c event → IsKnown c o → IsKnown (after c event) o
event_knows log c (Delivered b) o may knows = add_knows c b o knows
event_knows log c (Cleaned upto tomb_before) o may knows = knows
event_knows log c (CleanedPart p) o may knows = knows
event_knows log c (Trimmed start) o may knows = cut_knows c start o may.from_start knows
event_knows log c (Merged other) o may knows = join_knows_left c other o knows
event_knows log c (MergedInto other) o may knows = join_knows_right other c o knows
event_knows log c (Patched other asked) o may knows = patch_knows c (delta_of other asked) o knows

pub events_keep : (log : Log) (c : Content) (events : List Event) → IsPlainLog log → IsContentOf log c → MayAllHappen log c events → IsContentOf log (after_all c events)
events_keep log c [] plain is may = is
events_keep log c (event ∷ events) plain is may = events_keep log (after c event) events plain (event_keeps log c event plain is may.0) may.1

pub events_know : (log : Log) (c : Content) (events : List Event) (asked : Runs) → MayAllHappen log c events → IsFor c asked → IsFor (after_all c events) asked
events_know log c [] asked may knows = knows
events_know log c (event ∷ events) asked may knows = events_know log (after c event) events asked may.1 (λ o e. event_knows log c event o may.0 (knows o e))

-- ---- the answer, later

pub answer_accepted : (log : Log) (x y : Content) (asked : Runs) (events : List Event) → IsPlainLog log → IsContentOf log x → IsContentOf log y → IsCanonical asked → IsFor y asked → MayAllHappen log y events
    → Accepts (after_all y events) (delta_of x asked)
answer_accepted log x y asked events plain is_x is_y canonical knows may =
    copy_takes log x (after_all y events) asked plain is_x (events_keep log y events plain is_y may) canonical (events_know log y events asked may knows)

pub answer_merges : (log : Log) (x y : Content) (asked : Runs) (events : List Event) → IsPlainLog log → IsContentOf log x → IsContentOf log y → IsCanonical asked → IsFor y asked → MayAllHappen log y events
    → patch (after_all y events) (delta_of x asked) ≡ join (after_all y events) x
answer_merges log x y asked events plain is_x is_y canonical knows may =
    copy_patch log x (after_all y events) asked plain is_x (events_keep log y events plain is_y may) canonical (events_know log y events asked may knows)

pub answer_leaves_copy : (log : Log) (x y : Content) (asked : Runs) (events : List Event) → IsPlainLog log → IsContentOf log x → IsContentOf log y → IsCanonical asked → IsFor y asked → MayAllHappen log y events
    → IsContentOf log (patch (after_all y events) (delta_of x asked))
answer_leaves_copy log x y asked events plain is_x is_y canonical knows may =
    copy_patched log x (after_all y events) asked plain is_x (events_keep log y events plain is_y may) canonical (events_know log y events asked may knows)

-- ---- two answers, in either order

pub two_answers : (a b y : Content) (first second : Runs) → IsContent a → IsContent b → IsContent y → Agree y a → Agree y b → Agree a b → IsCanonical first → IsCanonical second → IsFor y first → IsFor y second
    → patch (patch y (delta_of a first)) (delta_of b second) ≡ join y (join a b)
two_answers a b y first second is_a is_b is_y with_a with_b both first_runs second_runs knows_first knows_second =
    let once : patch y (delta_of a first) ≡ join y a = patch_is_join_agree a y first is_a first_runs knows_first with_a in
    ap (λ (c : Content). patch c (delta_of b second)) once
    ∙ patch_is_join_agree b (join y a) second is_b second_runs (λ o e. join_knows_left y a o (knows_second o e)) (join_agrees y a b is_y is_a is_b with_b both)
    ∙ join_assoc y a b is_y is_a is_b

pub either_order : (a b y : Content) (first second : Runs) → IsContent a → IsContent b → IsContent y → Agree y a → Agree y b → Agree a b → IsCanonical first → IsCanonical second → IsFor y first → IsFor y second
    → patch (patch y (delta_of a first)) (delta_of b second) ≡ patch (patch y (delta_of b second)) (delta_of a first)
either_order a b y first second is_a is_b is_y with_a with_b both first_runs second_runs knows_first knows_second =
    two_answers a b y first second is_a is_b is_y with_a with_b both first_runs second_runs knows_first knows_second
    ∙ ap (join y) (join_comm_agree a b is_a is_b both)
    ∙ sym (two_answers b a y second first is_b is_a is_y with_b with_a (agree_sym a b both) second_runs first_runs knows_second knows_first)
