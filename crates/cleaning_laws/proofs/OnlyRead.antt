-- Requests that only read: two brokers that are alike answer them alike, and stay as they are.
use Rattle.std.proofs.Common.{◌≡◌, ℕ, ℤ, pos, negsuc, Bool, true, false, cond, not, ◌&&◌, List, [], ◌∷◌, ◌++◌, length, Option, Some, None, refl, sym, ap, subst, true≢false, arith}
use Rattle.std.specs.Prelude.{⊤, nat_lt, int_lt}
use Rattle.std.specs.List.{AllByRecursion, list_all}
use Rattle.std.specs.Ordering.{int_eq}
use Rattle.std.specs.Option.{unwrap_or}
use Rattle.std.specs.FinMap as finite
use Rattle.std.proofs.lemmas.Int.{ints}
use Rattle.content.specs.Table.{Table}
use Rattle.content.specs.Content.{Content, shown_table, end}
use Rattle.time_index.specs.Times.{first_by_time}
use Rattle.frame_fields.specs.Types.{TopicOf}
use Rattle.request_frames.specs.Requests.BodyValue.{fetch, list_offsets, offset_fetch, export, export_delta, get, cover}
use Rattle.request_frames.specs.Requests.{BodyValue}
use Rattle.request_frames.specs.Get.{GetValue}
use Rattle.request_frames.specs.Cover.{CoverValue}
use Rattle.request_frames.specs.Export.{ExportValue}
use Rattle.request_frames.specs.ExportDelta.{ExportDeltaValue}
use Rattle.request_frames.specs.Fetch.{FetchValue}
use Rattle.request_frames.specs.ListOffsets.{ListOffsetsPartitionValue}
use Rattle.request_frames.specs.OffsetFetch.{OffsetFetchValue, OffsetFetchPartitionValue}
use Rattle.group_offsets.specs.Lookups.{lookup_in}
use Rattle.answering.specs.declared.codes.ErrorCode.{ErrorCode}
use Rattle.answering.specs.declared.codes.ErrorCode.TheVariants.{UnknownTopicOrPartition, InvalidRequest, MessageTooLarge}
use Rattle.answering.specs.Codes.{no_error}
use Rattle.answering.specs.Lists.{fault_if, first_some}
use Rattle.answering.specs.Work.{Work, answer_after, answer}
use Rattle.broker_state.specs.State.{State, group_topic, is_known, content_at}
use Rattle.broker_state.specs.Checks.{no_group, role_code}
use Rattle.broker_state.proofs.Passed.{none_first, no_fault}
use Rattle.responses.specs.declared.list_offsets.partition.ListedPartition.{ListedPartition}
use Rattle.group_requests.specs.GroupPartition.{group_content}
use Rattle.group_requests.specs.OffsetFetch.{offset_fetch_lookup, offset_fetch_fault, offset_fetch_result, offset_fetch_work, offset_fetch_plan, partition_count}
use Rattle.group_requests.specs.declared.offset_fetch.TheConstants.{MAX_FETCHED_OFFSETS}
use Rattle.log_requests.specs.ListOffsets.{list_offsets_latest, list_offsets_earliest, list_offsets_at, list_offsets_result, list_offsets_work, list_offsets_plan}
use Rattle.copy_requests.specs.Get.{get_work, get_sent}
use Rattle.copy_requests.specs.Cover.{cover_work, cover_sent}
use Rattle.copy_requests.specs.Export.{export_work}
use Rattle.copy_requests.specs.ExportDelta.{export_delta_work}
use Rattle.copy_requests.specs.declared.cover.TheConstants.{MAX_COVER_RUNS}
use Rattle.broker_node.specs.Replies.{reply_to}
use Rattle.cleaning_laws.specs.Logs.{Logs}
use Rattle.cleaning_laws.specs.Alike.{AreAlike, StayAlike}
use Rattle.cleaning_laws.specs.Settled.{EachEntry, is_settled, is_no_time}
use Rattle.cleaning_laws.proofs.Seen.{same_start, same_cover, same_end}
use Rattle.cleaning_laws.proofs.GrownLogs.{stay}
use Rattle.cleaning_laws.proofs.TopicsAlike.{Same, topics_stay}
use Rattle.cleaning_laws.proofs.WorksAlike.{same_work, works_alike}
use Rattle.cleaning_laws.proofs.BothAppend.{seen_same, known_same}
use Rattle.cleaning_laws.proofs.SameShown.{shown_alike}

-- ---- tests

pub both_true : (a b : Bool) → (a && b) ≡ true → (a ≡ true) × (b ≡ true)
both_true true b e = (refl, e)
both_true false b e = absurd (true≢false (sym e))

-- a time below 0 is one of two, or less
clash : (time : ℤ) → int_lt time (pos 0) ≡ true → int_lt time list_offsets_earliest ≡ false → int_eq time list_offsets_latest ≡ false → int_eq time list_offsets_earliest ≡ false → ⊥
clash time below low not_latest not_earliest = absurd (grind (arith, ints, below, low, not_latest, not_earliest))

-- ---- answers

-- a request is answered alike
pub record BodyAlike (logs : Logs) (s z : State) (correlation : ℤ) (body : BodyValue) : Type 0 where
  pub states : StayAlike logs (reply_to s correlation body).1 (reply_to z correlation body).1
  pub replies : is_settled body ≡ true → (reply_to s correlation body).0 ≡ (reply_to z correlation body).0

-- work that leaves the state, or fails
pub work_stays : {R S : Type 0} (w : Work R S) (s : S) → w.done.1 ≡ s → (answer w s).1 ≡ s
work_stays w s stays = by (first_some (w.early ++ w.late))
  where
    by : (o : Option ErrorCode) → (answer_after o w s).1 ≡ s
    by None = stays
    by (Some code) = refl

pub unchanged : (logs : Logs) (s z m n : State) → StayAlike logs s z → m ≡ s → n ≡ z → StayAlike logs m n
unchanged logs s z m n h one other = subst (λ (x : State). StayAlike logs x n) (sym one) (subst (λ (x : State). StayAlike logs s x) (sym other) h)

-- two works by which nothing changes
pub read_alike : {R : Type 0} (logs : Logs) (s z : State) (v w : Work R State) → AreAlike logs s z → first_some (v.early ++ v.late) ≡ first_some (w.early ++ w.late)
    → ((code : ErrorCode) → v.failed code ≡ w.failed code) → (first_some (v.early ++ v.late) ≡ None → v.done.0 ≡ w.done.0) → v.done.1 ≡ s → w.done.1 ≡ z
    → Same (StayAlike logs) (answer v s) (answer w z)
read_alike logs s z v w alike same failed done one other = same_work logs s z v w alike same failed (λ none. (done none, unchanged logs s z v.done.1 w.done.1 (stay logs s z alike) one other))

-- ---- Get, Cover, Export

pub get_alike : (logs : Logs) (s z : State) (n : ℤ) (q : GetValue) → AreAlike logs s z → BodyAlike logs s z n (get q)
get_alike logs s z n q alike =
    let known : is_known s q.topic q.partition ≡ is_known z q.topic q.partition = known_same logs s z q.topic q.partition alike in
    let shown : shown_table (content_at s q.topic q.partition) ≡ shown_table (content_at z q.topic q.partition) = shown_alike logs s z alike q.topic q.partition in
    let both = read_alike logs s z (get_work s q) (get_work z q) alike (ap (λ (b : Bool). first_some (fault_if (not b) UnknownTopicOrPartition ∷ [])) known) (λ code. refl) (λ none i. record { code = no_error; value = finite.get (shown i) q.key }) refl refl in
    record { states = both.1; replies = λ settled. ap (λ r. Some (get_sent n r)) both.0 }

pub cover_alike : (logs : Logs) (s z : State) (n : ℤ) (q : CoverValue) → AreAlike logs s z → BodyAlike logs s z n (cover q)
cover_alike logs s z n q alike =
    let known : is_known s q.topic q.partition ≡ is_known z q.topic q.partition = known_same logs s z q.topic q.partition alike in
    let runs : (content_at s q.topic q.partition).cover ≡ (content_at z q.topic q.partition).cover = same_cover (content_at s q.topic q.partition) (content_at z q.topic q.partition) (seen_same logs s z q.topic q.partition alike) in
    let both = read_alike logs s z (cover_work s q) (cover_work z q) alike (λ i. first_some (fault_if (not (known i)) UnknownTopicOrPartition ∷ fault_if (nat_lt MAX_COVER_RUNS (length (runs i))) MessageTooLarge ∷ [])) (λ code. refl) (λ none i. record { code = no_error; runs = runs i }) refl refl in
    record { states = both.1; replies = λ settled. ap (λ r. Some (cover_sent n r)) both.0 }

-- an image shows what is kept
pub export_alike : (logs : Logs) (s z : State) (n : ℤ) (q : ExportValue) → AreAlike logs s z → BodyAlike logs s z n (export q)
export_alike logs s z n q alike = record {
  states = unchanged logs s z (answer (export_work s q) s).1 (answer (export_work z q) z).1 (stay logs s z alike) (work_stays (export_work s q) s refl) (work_stays (export_work z q) z refl);
  replies = λ settled. absurd cc;
}

-- so does a delta
pub export_delta_alike : (logs : Logs) (s z : State) (n : ℤ) (q : ExportDeltaValue) → AreAlike logs s z → BodyAlike logs s z n (export_delta q)
export_delta_alike logs s z n q alike = record {
  states = unchanged logs s z (answer (export_delta_work s q) s).1 (answer (export_delta_work z q) z).1 (stay logs s z alike) (work_stays (export_delta_work s q) s refl) (work_stays (export_delta_work z q) z refl);
  replies = λ settled. absurd cc;
}

-- ---- Fetch, which leaves the state whatever it sends

pub fetch_alike : (logs : Logs) (s z : State) (n : ℤ) (q : FetchValue) → AreAlike logs s z → BodyAlike logs s z n (fetch q)
fetch_alike logs s z n q alike = record {
  states = stay logs s z alike;
  replies = λ settled. absurd cc;
}

-- ---- OffsetFetch

fetched_alike : (group : List ℕ) (too_many : Bool) (logs : Logs) (s z : State) (name : List ℕ) (e : OffsetFetchPartitionValue) → ⊤ → AreAlike logs s z
    → Same (StayAlike logs) (answer (offset_fetch_work s group too_many name e) s) (answer (offset_fetch_work z group too_many name e) z)
fetched_alike group too_many logs s z name e good alike =
    let known : is_known s name e.partition ≡ is_known z name e.partition = known_same logs s z name e.partition alike in
    let shown : shown_table (group_content s) ≡ shown_table (group_content z) = shown_alike logs s z alike group_topic (pos 0) in
    let found : offset_fetch_lookup s group name e.partition ≡ offset_fetch_lookup z group name e.partition = ap (λ (t : Table). lookup_in t (record { group = group; topic = name; partition = e.partition })) shown in
    read_alike logs s z (offset_fetch_work s group too_many name e) (offset_fetch_work z group too_many name e) alike
    (λ i. first_some (fault_if too_many InvalidRequest ∷ no_group group ∷ fault_if (not (known i)) UnknownTopicOrPartition ∷ offset_fetch_fault (found i) ∷ []))
    (λ code. refl) (λ none. ap (offset_fetch_result e.partition) found) refl refl

-- each entry of a list is good
all_good : {X : Type 0} (IsGood : X → Type 0) → ((x : X) → IsGood x) → (xs : List X) → AllByRecursion IsGood xs
all_good IsGood good [] = tt
all_good IsGood good (x ∷ xs) = (good x, all_good IsGood good xs)

each_good : {E : Type 0} (ts : List (TopicOf E)) → EachEntry (λ name e. ⊤) ts
each_good ts = all_good _ (λ t. all_good _ (λ e. tt) t.entries) ts

-- the bound on how many partitions are answered
abbrev asks_too_many : OffsetFetchValue → Bool
asks_too_many q = nat_lt MAX_FETCHED_OFFSETS (partition_count q.topics)

pub offset_fetch_alike : (logs : Logs) (s z : State) (n : ℤ) (q : OffsetFetchValue) → AreAlike logs s z → BodyAlike logs s z n (offset_fetch q)
offset_fetch_alike logs s z n q alike =
    let all = works_alike (λ s name e. offset_fetch_work s q.group (asks_too_many q) name e) (λ name e. ⊤) (fetched_alike q.group (asks_too_many q)) logs s z q.topics (each_good q.topics) alike in
    record { states = all.1; replies = λ settled. ap (offset_fetch_plan s n q).response all.0 }

-- ---- ListOffsets

all_times : (es : List ListOffsetsPartitionValue) → list_all is_no_time es ≡ true → AllByRecursion (λ e. is_no_time e ≡ true) es
all_times [] h = tt
all_times (e ∷ es) h = let both = both_true (is_no_time e) (list_all is_no_time es) h in (both.0, all_times es both.1)

each_time : (ts : List (TopicOf ListOffsetsPartitionValue)) → list_all (λ t. list_all is_no_time t.entries) ts ≡ true → EachEntry (λ name e. is_no_time e ≡ true) ts
each_time [] h = tt
each_time (t ∷ ts) h =
    let both = both_true (list_all is_no_time t.entries) (list_all (λ t. list_all is_no_time t.entries) ts) h in
    (all_times t.entries both.0, each_time ts both.1)

-- the end and the start are read of what was seen
listed_alike : (c d : Content) (time : ℤ) → int_lt time (pos 0) ≡ true → int_lt time list_offsets_earliest ≡ false → end c ≡ end d → c.start ≡ d.start
    → list_offsets_at c time ≡ list_offsets_at d time
listed_alike c d time is_time low ends starts = by (int_eq time list_offsets_latest) refl (int_eq time list_offsets_earliest) refl
  where
    by : (a : Bool) → int_eq time list_offsets_latest ≡ a → (b : Bool) → int_eq time list_offsets_earliest ≡ b
        → cond a (negsuc 0, end c) (cond b (negsuc 0, c.start) (unwrap_or (first_by_time time c.kept) (negsuc 0, negsuc 0)))
        ≡ cond a (negsuc 0, end d) (cond b (negsuc 0, d.start) (unwrap_or (first_by_time time d.kept) (negsuc 0, negsuc 0)))
    by true e b f = λ i. (negsuc 0, ends i)
    by false e true f = λ i. (negsuc 0, starts i)
    by false e false f = absurd (clash time is_time low e f)

abbrev list_step : State → List ℕ → ListOffsetsPartitionValue → ListedPartition × State
list_step s name e = answer (list_offsets_work s name e) s

listed_entry : (logs : Logs) (s z : State) (name : List ℕ) (e : ListOffsetsPartitionValue) → is_no_time e ≡ true → AreAlike logs s z → Same (StayAlike logs) (list_step s name e) (list_step z name e)
listed_entry logs s z name e time alike =
    let known : is_known s name e.partition ≡ is_known z name e.partition = known_same logs s z name e.partition alike in
    let seen = seen_same logs s z name e.partition alike in
    read_alike logs s z (list_offsets_work s name e) (list_offsets_work z name e) alike
    (λ i. first_some (fault_if (not (known i)) UnknownTopicOrPartition ∷ role_code (alike.config i).role ∷ fault_if (int_lt e.time list_offsets_earliest) InvalidRequest ∷ []))
    (λ code. refl)
    (λ none.
    let first = none_first (fault_if (not (is_known s name e.partition)) UnknownTopicOrPartition) _ none in
    let second = none_first (role_code s.config.role) _ first.1 in
    let low = no_fault (int_lt e.time list_offsets_earliest) InvalidRequest (none_first (fault_if (int_lt e.time list_offsets_earliest) InvalidRequest) None second.1).0 in
    ap (list_offsets_result e.partition no_error) (listed_alike (content_at s name e.partition) (content_at z name e.partition) e.time time low (same_end (content_at s name e.partition) (content_at z name e.partition) seen) (same_start (content_at s name e.partition) (content_at z name e.partition) seen)))
    refl refl

pub list_offsets_alike : (logs : Logs) (s z : State) (n : ℤ) (topics : List (TopicOf ListOffsetsPartitionValue)) → AreAlike logs s z → BodyAlike logs s z n (list_offsets topics)
list_offsets_alike logs s z n topics alike = record {
  states = topics_stay list_step (StayAlike logs) (λ name e. ⊤) (λ m o name e good h. unchanged logs m o (list_step m name e).1 (list_step o name e).1 h (work_stays (list_offsets_work m name e) m refl) (work_stays (list_offsets_work o name e) o refl)) s z topics (each_good topics) (stay logs s z alike);
  replies = λ settled. ap (list_offsets_plan s n topics).response (works_alike list_offsets_work (λ name e. is_no_time e ≡ true) listed_entry logs s z topics (each_time topics settled) alike).0;
}
