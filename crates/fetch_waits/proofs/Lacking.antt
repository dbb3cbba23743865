-- What is still lacking behind some entries, and that it tells whether all lack bytes.
use Rattle.std.proofs.Common.{◌≡◌, ℕ, ◌+◌, ◌-◌, ◌<◌, ◌≤◌, arith, Bool, true, false, List, [], ◌∷◌, ◌++◌, length, Option, Some, None, sym, ap, subst, refl, ◌∙◌}
use Rattle.std.specs.Prelude.{◌&&◌, nat_lt, nat_eq, is_some, if◌then◌else◌}
use Rattle.std.specs.Option.{option_and_then}
use Rattle.std.specs.List.{flat_map, list_all}
use Rattle.std.specs.Ordering.{int_eq}
use Rattle.std.proofs.lemmas.Grind.{flat_map-append}
use Rattle.std.proofs.lemmas.List.{length-append}
use Rattle.std.proofs.lemmas.List.Concat.{flat_map-cons}
use Rattle.std.proofs.lemmas.List.Folds.{list_all-append}
use Rattle.frame_fields.specs.Types.{TopicOf}
use Rattle.request_frames.specs.Fetch.{FetchValue, FetchPartitionValue}
use Rattle.responses.specs.Fetch.{Fetched}
use Rattle.answering.specs.Lists.{map_accum}
use Rattle.answering.specs.Codes.{no_error}
use Rattle.answering.specs.Plans.{over_topics}
use Rattle.broker_state.specs.State.{State, content_at}
use Rattle.log_requests.specs.Fetch.{FetchRoom, fetch_room}
use Rattle.log_requests.specs.Fetch.Entries.{fetch_answer}
use Rattle.fetch_waits.specs.Waiting.{awaited_bytes, bytes_from, fetched_of, lacks_bytes}
use Rattle.fetch_waits.specs.Waiting.Entries.{left_behind, left_by_entry, left_by_entries, left_by_topics}
use Rattle.fetch_waits.proofs.Rooms.{HasRoom, given_within, left_is, room_behind}

-- ---- one more

pub entry_passed : (s : State) (name : List ℕ) (awaited p q : ℕ) (left more : List FetchPartitionValue) (e : FetchPartitionValue) (x : Option ℕ)
    → left ≡ e ∷ more → left_by_entry s name awaited p e ≡ Some q → left_by_entries s name awaited p left ≡ x → left_by_entries s name awaited q more ≡ x
entry_passed s name awaited p q left more e x parts is so_far =
    sym (ap (left_by_entries s name awaited p) parts ∙ ap (option_and_then (λ l. left_by_entries s name awaited l more)) is) ∙ so_far

pub entry_stops : (s : State) (name : List ℕ) (awaited p : ℕ) (left more : List FetchPartitionValue) (e : FetchPartitionValue) (x : Option ℕ)
    → left ≡ e ∷ more → left_by_entry s name awaited p e ≡ None → left_by_entries s name awaited p left ≡ x → None ≡ x
entry_stops s name awaited p left more e x parts is so_far =
    sym (ap (left_by_entries s name awaited p) parts ∙ ap (option_and_then (λ l. left_by_entries s name awaited l more)) is) ∙ so_far

pub entries_end : (s : State) (name : List ℕ) (awaited p : ℕ) (left : List FetchPartitionValue) (x : Option ℕ) → left ≡ [] → left_by_entries s name awaited p left ≡ x → Some p ≡ x
entries_end s name awaited p left x none so_far = sym (ap (left_by_entries s name awaited p) none) ∙ so_far

pub topic_passed : (s : State) (awaited p q : ℕ) (left more : List (TopicOf FetchPartitionValue)) (t : TopicOf FetchPartitionValue) (x : Option ℕ)
    → left ≡ t ∷ more → left_by_entries s t.name awaited p t.entries ≡ Some q → left_by_topics s awaited p left ≡ x → left_by_topics s awaited q more ≡ x
topic_passed s awaited p q left more t x parts is so_far =
    sym (ap (left_by_topics s awaited p) parts ∙ ap (option_and_then (λ l. left_by_topics s awaited l more)) is) ∙ so_far

pub topic_stops : (s : State) (awaited p : ℕ) (left more : List (TopicOf FetchPartitionValue)) (t : TopicOf FetchPartitionValue) (x : Option ℕ)
    → left ≡ t ∷ more → left_by_entries s t.name awaited p t.entries ≡ None → left_by_topics s awaited p left ≡ x → None ≡ x
topic_stops s awaited p left more t x parts is so_far =
    sym (ap (left_by_topics s awaited p) parts ∙ ap (option_and_then (λ l. left_by_topics s awaited l more)) is) ∙ so_far

pub topics_end : (s : State) (awaited p : ℕ) (left : List (TopicOf FetchPartitionValue)) (x : Option ℕ) → left ≡ [] → left_by_topics s awaited p left ≡ x → Some p ≡ x
topics_end s awaited p left x none so_far = sym (ap (left_by_topics s awaited p) none) ∙ so_far

-- ---- all

abbrev good : Fetched → Bool
good r = int_eq r.partition.code no_error

abbrev bytes_of : List Fetched → ℕ
bytes_of rs = length (flat_map (λ (r : Fetched). r.records) rs)

bytes_more : (r : Fetched) (rs : List Fetched) → bytes_of (r ∷ rs) ≡ length r.records + bytes_of rs
bytes_more r rs = ap length (flat_map-cons (λ (x : Fetched). x.records) r rs) ∙ length-append r.records (flat_map (λ (x : Fetched). x.records) rs)

bytes_append : (rs qs : List Fetched) → bytes_of (rs ++ qs) ≡ bytes_of rs + bytes_of qs
bytes_append rs qs = ap length (flat_map-append (λ (x : Fetched). x.records) rs qs) ∙ length-append (flat_map (λ (x : Fetched). x.records) rs) (flat_map (λ (x : Fetched). x.records) qs)

-- how many bytes are there: of an entry, of some, of some topics
abbrev there_at : State → List ℕ → FetchPartitionValue → List ℕ
there_at s name e = bytes_from (content_at s name e.partition) e.offset

abbrev there_of : State → List ℕ → List FetchPartitionValue → ℕ
there_of s name es = length (flat_map (there_at s name) es)

there_more : (s : State) (name : List ℕ) (e : FetchPartitionValue) (es : List FetchPartitionValue) → there_of s name (e ∷ es) ≡ length (there_at s name e) + there_of s name es
there_more s name e es = ap length (flat_map-cons (there_at s name) e es) ∙ length-append (there_at s name e) (flat_map (there_at s name) es)

abbrev there_in : State → TopicOf FetchPartitionValue → List ℕ
there_in s t = flat_map (there_at s t.name) t.entries

abbrev there_all : State → List (TopicOf FetchPartitionValue) → ℕ
there_all s ts = length (flat_map (there_in s) ts)

there_topics : (s : State) (t : TopicOf FetchPartitionValue) (ts : List (TopicOf FetchPartitionValue)) → there_all s (t ∷ ts) ≡ there_of s t.name t.entries + there_all s ts
there_topics s t ts = ap length (flat_map-cons (there_in s) t ts) ∙ length-append (there_in s t) (flat_map (there_in s) ts)

no_more : (b t : Bool) (left : ℕ) → t ≡ false → (if b && t then Some left else None) ≡ None
no_more true t left is = ap (λ (x : Bool). if x then Some left else None) is
no_more false t left is = refl

-- what is left behind some, and then behind others
then_others : (a b : Bool) (m m' n n' missing : ℕ) (next : ℕ → Option ℕ) → m ≤ m' → n ≤ n' → (nat_lt m missing ≡ true → next (missing - m) ≡ left_behind b n n' (missing - m))
    → option_and_then next (left_behind a m m' missing) ≡ left_behind (a && b) (m + n) (m' + n') missing
then_others false b m m' n n' missing next front behind is = refl
then_others true b m m' n n' missing next front behind is = by (nat_eq m m' && nat_lt m missing) refl where
  rest : missing - m - n ≡ missing - (m + n)
  rest = omega arith

  by : (t : Bool) → (nat_eq m m' && nat_lt m missing) ≡ t → option_and_then next (if t then Some (missing - m) else None) ≡ left_behind b (m + n) (m' + n') missing
  by true fits =
      let less : (nat_eq n n' && nat_lt n (missing - m)) ≡ (nat_eq (m + n) (m' + n') && nat_lt (m + n) missing) = grind (arith, fits) in
      is (grind (arith, fits)) ∙ (λ i. if b && less i then Some (rest i) else None)
  by false full =
      let more : (nat_eq (m + n) (m' + n') && nat_lt (m + n) missing) ≡ false = grind (arith, full, front, behind) in
      sym (no_more b (nat_eq (m + n) (m' + n') && nat_lt (m + n) missing) (missing - (m + n)) more)

-- nothing is asked for: all that was missing still is
none_asked : (missing : ℕ) → 0 < missing → Some missing ≡ left_behind true 0 0 missing
none_asked missing some =
    let less : (nat_eq 0 0 && nat_lt 0 missing) ≡ true = grind (arith, some) in
    let same : missing ≡ missing - 0 = omega arith in
    (λ i. Some (same i)) ∙ sym (ap (λ (b : Bool). if b then Some (missing - 0) else None) less)

-- ---- the entries of a topic

entries_within : (s : State) (name : List ℕ) (room : FetchRoom) (es : List FetchPartitionValue) → bytes_of (map_accum (λ r e. fetch_answer s name r e) room es).0 ≤ there_of s name es
entries_within s name room [] = omega arith
entries_within s name room (e ∷ es) =
    let a = fetch_answer s name room e in
    let all = map_accum (λ r e. fetch_answer s name r e) a.1 es in
    omega (arith, bytes_more a.0 all.0, there_more s name e es, given_within s name e room, entries_within s name a.1 es)

by_entries : (s : State) (name : List ℕ) (awaited missing : ℕ) (room : FetchRoom) (es : List FetchPartitionValue) → HasRoom awaited missing room
    → let all = map_accum (λ r e. fetch_answer s name r e) room es in
    left_by_entries s name awaited missing es ≡ left_behind (list_all good all.0) (bytes_of all.0) (there_of s name es) missing
by_entries s name awaited missing room [] has = none_asked missing has.some
by_entries s name awaited missing room (e ∷ es) has =
    let a = fetch_answer s name room e in
    let all = map_accum (λ r e. fetch_answer s name r e) a.1 es in
    let n = length a.0.records in
    ap (option_and_then (λ left. left_by_entries s name awaited left es)) (left_is s name e awaited missing room has)
    ∙ then_others (good a.0) (list_all good all.0) n (length (there_at s name e)) (bytes_of all.0) (there_of s name es) missing (λ left. left_by_entries s name awaited left es)
    (given_within s name e room) (entries_within s name a.1 es) (λ less. by_entries s name awaited (missing - n) a.1 es (room_behind s name e awaited missing room has less))
    ∙ (λ i. left_behind (good a.0 && list_all good all.0) (sym (bytes_more a.0 all.0) i) (sym (there_more s name e es) i) missing)

both_less : (m n sum missing : ℕ) → sum ≡ m + n → nat_lt sum missing ≡ true → (nat_lt m missing ≡ true) × (nat_lt n (missing - m) ≡ true)
both_less m n sum missing is less = (grind (arith, is, less), grind (arith, is, less))

entries_room : (s : State) (name : List ℕ) (awaited missing : ℕ) (room : FetchRoom) (es : List FetchPartitionValue) → HasRoom awaited missing room
    → let all = map_accum (λ r e. fetch_answer s name r e) room es in nat_lt (bytes_of all.0) missing ≡ true → HasRoom awaited (missing - bytes_of all.0) all.1
entries_room s name awaited missing room [] has less =
    let same : missing ≡ missing - 0 = omega arith in
    subst (λ (n : ℕ). HasRoom awaited n room) same has
entries_room s name awaited missing room (e ∷ es) has less =
    let a = fetch_answer s name room e in
    let all = map_accum (λ r e. fetch_answer s name r e) a.1 es in
    let n = length a.0.records in
    let sum = bytes_more a.0 all.0 in
    let same : missing - n - bytes_of all.0 ≡ missing - bytes_of (a.0 ∷ all.0) = omega (arith, sum) in
    let both = both_less n (bytes_of all.0) (bytes_of (a.0 ∷ all.0)) missing sum less in
    subst (λ (left : ℕ). HasRoom awaited left all.1) same (entries_room s name awaited (missing - n) a.1 es (room_behind s name e awaited missing room has both.0) both.1)

-- ---- the topics

abbrev all_entries : List (TopicOf Fetched) → List Fetched
all_entries ts = flat_map (λ (t : TopicOf Fetched). t.entries) ts

abbrev answers_of : State → FetchRoom → List (TopicOf FetchPartitionValue) → List (TopicOf Fetched) × FetchRoom
answers_of s room ts = over_topics (λ r name e. fetch_answer s name r e) room ts

topics_within : (s : State) (room : FetchRoom) (ts : List (TopicOf FetchPartitionValue)) → bytes_of (all_entries (answers_of s room ts).0) ≤ there_all s ts
topics_within s room [] = omega arith
topics_within s room (t ∷ ts) =
    let first = map_accum (λ r e. fetch_answer s t.name r e) room t.entries in
    let all = answers_of s first.1 ts in
    let whole : all_entries (record { name = t.name; entries = first.0 } ∷ all.0) ≡ first.0 ++ all_entries all.0 = flat_map-cons (λ (x : TopicOf Fetched). x.entries) (record { name = t.name; entries = first.0 }) all.0 in
    let sum = ap bytes_of whole ∙ bytes_append first.0 (all_entries all.0) in
    omega (arith, sum, there_topics s t ts, entries_within s t.name room t.entries, topics_within s first.1 ts)

by_topics : (s : State) (awaited missing : ℕ) (room : FetchRoom) (ts : List (TopicOf FetchPartitionValue)) → HasRoom awaited missing room
    → let all = answers_of s room ts in
    left_by_topics s awaited missing ts ≡ left_behind (list_all good (all_entries all.0)) (bytes_of (all_entries all.0)) (there_all s ts) missing
by_topics s awaited missing room [] has = none_asked missing has.some
by_topics s awaited missing room (t ∷ ts) has =
    let first = map_accum (λ r e. fetch_answer s t.name r e) room t.entries in
    let all = answers_of s first.1 ts in
    let n = bytes_of first.0 in
    let whole : all_entries (record { name = t.name; entries = first.0 } ∷ all.0) ≡ first.0 ++ all_entries all.0 = flat_map-cons (λ (x : TopicOf Fetched). x.entries) (record { name = t.name; entries = first.0 }) all.0 in
    ap (option_and_then (λ left. left_by_topics s awaited left ts)) (by_entries s t.name awaited missing room t.entries has)
    ∙ then_others (list_all good first.0) (list_all good (all_entries all.0)) n (there_of s t.name t.entries) (bytes_of (all_entries all.0)) (there_all s ts) missing (λ left. left_by_topics s awaited left ts)
    (entries_within s t.name room t.entries) (topics_within s first.1 ts) (λ less. by_topics s awaited (missing - n) first.1 ts (entries_room s t.name awaited missing room t.entries has less))
    ∙ (λ i. left_behind (sym (list_all-append good first.0 (all_entries all.0)) i) (sym (bytes_append first.0 (all_entries all.0)) i) (sym (there_topics s t ts) i) missing)
    ∙ ap (λ (rs : List Fetched). left_behind (list_all good rs) (bytes_of rs) (there_all s (t ∷ ts)) missing) (sym whole)

is_left : (b : Bool) (left : ℕ) → is_some (if b then Some left else None) ≡ b
is_left true left = refl
is_left false left = refl

pub lacks_is : (s : State) (q : FetchValue) (x : Option ℕ) → 0 < awaited_bytes q → x ≡ left_by_topics s (awaited_bytes q) (awaited_bytes q) q.topics → is_some x ≡ lacks_bytes s q
lacks_is s q x some is =
    let n = bytes_of (fetched_of s q) in
    let has : HasRoom (awaited_bytes q) (awaited_bytes q) (fetch_room q.max_bytes) = record { some = some; most = omega arith; within = omega arith; given = grind arith } in
    ap is_some (is ∙ by_topics s (awaited_bytes q) (awaited_bytes q) (fetch_room q.max_bytes) q.topics has)
    ∙ is_left (list_all good (fetched_of s q) && (nat_eq n (there_all s q.topics) && nat_lt n (awaited_bytes q))) (awaited_bytes q - n)

pub lacks_none : (s : State) (q : FetchValue) → awaited_bytes q ≡ 0 → false ≡ lacks_bytes s q
lacks_none s q none =
    let n = bytes_of (fetched_of s q) in
    sym (by (list_all good (fetched_of s q)) (nat_eq n (there_all s q.topics) && nat_lt n (awaited_bytes q)) (grind (arith, none))) where
      by : (a b : Bool) → b ≡ false → (a && b) ≡ false
      by true b is = is
      by false b is = refl
