-- Of a Fetch that waits some bytes are missing.
use Rattle.std.proofs.Common.{◌≡◌, ℕ, ◌<◌, arith, Bool, true, false, List, [], ◌∷◌, length, ap, refl, ◌∙◌}
use Rattle.std.specs.Prelude.{◌&&◌, nat_eq, nat_lt, int_lt, pos}
use Rattle.std.specs.List.{flat_map, list_all}
use Rattle.std.specs.Ordering.{int_eq}
use Rattle.std.proofs.lemmas.Bool.{false≢true}
use Rattle.std.proofs.lemmas.List.{length-append}
use Rattle.std.proofs.lemmas.List.Concat.{flat_map-cons}
use Rattle.frame_fields.specs.Types.{TopicOf}
use Rattle.request_frames.specs.Fetch.{FetchPartitionValue, FetchValue}
use Rattle.answering.specs.Codes.{no_error}
use Rattle.broker_state.specs.State.{State, content_at}
use Rattle.fetch_waits.specs.Waiting.{asks_for_some, awaited_bytes, bytes_from, bytes_given, bytes_there, fetch_waits, fetched_of, lacks_bytes}
use Rattle.fetch_waits.specs.Sleeping.{there_in, there_of}

there_entries : (s : State) (name : List ℕ) (es : List FetchPartitionValue) → length (flat_map (λ (e : FetchPartitionValue). bytes_from (content_at s name e.partition) e.offset) es) ≡ there_of s name es
there_entries s name [] = refl
there_entries s name (e ∷ es) =
    let f = λ (e : FetchPartitionValue). bytes_from (content_at s name e.partition) e.offset in
    let parts = ap length (flat_map-cons f e es) ∙ length-append (f e) (flat_map f es) in
    let rest = there_entries s name es in
    omega (arith, parts, rest)

there_topics : (s : State) (ts : List (TopicOf FetchPartitionValue)) → length (flat_map (λ (t : TopicOf FetchPartitionValue). flat_map (λ (e : FetchPartitionValue). bytes_from (content_at s t.name e.partition) e.offset) t.entries) ts) ≡ there_in s ts
there_topics s [] = refl
there_topics s (t ∷ ts) =
    let f = λ (t : TopicOf FetchPartitionValue). flat_map (λ (e : FetchPartitionValue). bytes_from (content_at s t.name e.partition) e.offset) t.entries in
    let parts = ap length (flat_map-cons f t ts) ∙ length-append (f t) (flat_map f ts) in
    let first = there_entries s t.name t.entries in
    let rest = there_topics s ts in
    omega (arith, parts, first, rest)

last_true : (a b c : Bool) → (a && (b && c)) ≡ true → c ≡ true
last_true true true c is = is
last_true true false c is = absurd (false≢true is)
last_true false b c is = absurd (false≢true is)

lacks : (s : State) (q : FetchValue) → fetch_waits s q ≡ true → lacks_bytes s q ≡ true
unfolding fetch_waits
lacks s q is = last_true (int_lt (pos 0) q.max_wait_ms) (asks_for_some q) (lacks_bytes s q) is

pub some_missing : (s : State) (q : FetchValue) → fetch_waits s q ≡ true → there_in s q.topics < awaited_bytes q
some_missing s q waits =
    let given = length (bytes_given s q) in
    let is = by (list_all (λ r. int_eq r.partition.code no_error) (fetched_of s q)) (nat_eq given (length (bytes_there s q)) && nat_lt given (awaited_bytes q)) (lacks s q waits) in
    let same : given ≡ length (bytes_there s q) = grind (arith, is) in
    let less : given < awaited_bytes q = grind (arith, is) in
    let all = there_topics s q.topics in
    omega (arith, same, less, all)
  where
    by : (a b : Bool) → (a && b) ≡ true → b ≡ true
    by true b is = is
    by false b is = absurd (false≢true is)
