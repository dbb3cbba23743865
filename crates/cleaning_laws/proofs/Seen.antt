-- What can be read of a broker's partitions without what they keep is a function of its seen topics.
use Rattle.std.proofs.Common.{◌≡◌, ℕ, zero, suc, ℤ, pos, negsuc, Bool, true, false, cond, List, [], ◌∷◌, Option, Some, None, set, refl, sym, ap, ◌∙◌}
use Rattle.std.specs.Prelude.{is_some, map, slice_get, bytes_eq, if◌then◌else◌}
use Rattle.std.specs.List.{find}
use Rattle.std.specs.Option.{unwrap_or, option_and_then, option_map}
use Rattle.content.specs.Content.{Content, empty, end}
use Rattle.broker_state.specs.State.{Topic, State, partition_of, partition_at, is_known, content_at, with_partition, with_partition_of, with_content}
use Rattle.broker_state.proofs.OwnContent.{unchanged_at}
use Rattle.cleaning_laws.specs.Alike.{Seen, SeenTopic, seen_of, seen_topic, seen_topics}

-- ---- one partition

abbrev pub seen_partition : ℤ → SeenTopic → Option Seen
seen_partition (pos p) t = slice_get t.partitions p
seen_partition (negsuc p) t = None

abbrev pub seen_at : List SeenTopic → List ℕ → ℤ → Option Seen
seen_at ts name p = option_and_then (seen_partition p) (find (λ t. bytes_eq t.name name) ts)

get_seen : (cs : List Content) (n : ℕ) → option_map seen_of (slice_get cs n) ≡ slice_get (map seen_of cs) n
get_seen [] n = refl
get_seen (c ∷ cs) zero = refl
get_seen (c ∷ cs) (suc n) = get_seen cs n

of_topic : (p : ℤ) (t : Topic) → option_map seen_of (partition_of p t) ≡ seen_partition p (seen_topic t)
of_topic (pos n) t = get_seen t.partitions n
of_topic (negsuc n) t = refl

abbrev at : List ℕ → ℤ → List Topic → Option Content
at name p ts = option_and_then (partition_of p) (find (λ t. bytes_eq t.name name) ts)

of_topics : (ts : List Topic) (name : List ℕ) (p : ℤ) → option_map seen_of (at name p ts) ≡ seen_at (map seen_topic ts) name p
of_topics [] name p = refl
of_topics (t ∷ ts) name p = by (bytes_eq t.name name) (of_topics ts name p)
  where
    by : (b : Bool) → option_map seen_of (at name p ts) ≡ seen_at (map seen_topic ts) name p
        → option_map seen_of (option_and_then (partition_of p) (cond b (Some t) (find (λ t. bytes_eq t.name name) ts)))
        ≡ option_and_then (seen_partition p) (cond b (Some (seen_topic t)) (find (λ t. bytes_eq t.name name) (map seen_topic ts)))
    by true rest = of_topic p t
    by false rest = rest

pub partition_seen : (s : State) (name : List ℕ) (p : ℤ) → option_map seen_of (partition_at s name p) ≡ seen_at (seen_topics s) name p
partition_seen s name p = of_topics s.topics name p

-- ---- two states with equal seen topics

is_some_seen : (o : Option Content) → is_some o ≡ is_some (option_map seen_of o)
is_some_seen None = refl
is_some_seen (Some c) = refl

seen_or_empty : (o : Option Content) → seen_of (unwrap_or o empty) ≡ unwrap_or (option_map seen_of o) (seen_of empty)
seen_or_empty None = refl
seen_or_empty (Some c) = refl

known_seen : (s : State) (name : List ℕ) (p : ℤ) → is_known s name p ≡ is_some (seen_at (seen_topics s) name p)
known_seen s name p = is_some_seen (partition_at s name p) ∙ ap is_some (partition_seen s name p)

content_seen : (s : State) (name : List ℕ) (p : ℤ) → seen_of (content_at s name p) ≡ unwrap_or (seen_at (seen_topics s) name p) (seen_of empty)
content_seen s name p = seen_or_empty (partition_at s name p) ∙ ap (λ (o : Option Seen). unwrap_or o (seen_of empty)) (partition_seen s name p)

-- they have the same partitions
pub same_known : (s z : State) (name : List ℕ) (p : ℤ) → seen_topics s ≡ seen_topics z → is_known s name p ≡ is_known z name p
same_known s z name p seen = known_seen s name p ∙ ap (λ (ts : List SeenTopic). is_some (seen_at ts name p)) seen ∙ sym (known_seen z name p)

-- and have seen the same of them
pub same_seen : (s z : State) (name : List ℕ) (p : ℤ) → seen_topics s ≡ seen_topics z → seen_of (content_at s name p) ≡ seen_of (content_at z name p)
same_seen s z name p seen = content_seen s name p ∙ ap (λ (ts : List SeenTopic). unwrap_or (seen_at ts name p) (seen_of empty)) seen ∙ sym (content_seen z name p)

-- so they have the same starts, covers and ends
pub same_start : (c d : Content) → seen_of c ≡ seen_of d → c.start ≡ d.start
same_start c d same = ap (λ (x : Seen). x.start) same

pub same_cover : (c d : Content) → seen_of c ≡ seen_of d → c.cover ≡ d.cover
same_cover c d same = ap (λ (x : Seen). x.cover) same

pub same_end : (c d : Content) → seen_of c ≡ seen_of d → end c ≡ end d
same_end c d same = ap (λ (x : Seen). end (record { start = x.start; cover = x.cover; kept = [] })) same

pub seen_made : (c d : Content) → c.start ≡ d.start → c.cover ≡ d.cover → seen_of c ≡ seen_of d
seen_made c d starts covers = λ i. record { start = starts i; cover = covers i }

-- ---- another content of one partition

abbrev pub with_seen_partition : ℤ → Seen → SeenTopic → SeenTopic
with_seen_partition (pos p) x t = record t { partitions = set t.partitions p x }
with_seen_partition (negsuc p) x t = t

abbrev pub with_seen : List ℕ → ℤ → Seen → List SeenTopic → List SeenTopic
with_seen name p x [] = []
with_seen name p x (t ∷ ts) = if bytes_eq t.name name then with_seen_partition p x t ∷ ts else t ∷ with_seen name p x ts

set_seen : (cs : List Content) (n : ℕ) (c : Content) → map seen_of (set cs n c) ≡ set (map seen_of cs) n (seen_of c)
set_seen [] n c = refl
set_seen (d ∷ cs) zero c = refl
set_seen (d ∷ cs) (suc n) c = ap (λ (xs : List Seen). seen_of d ∷ xs) (set_seen cs n c)

with_topic : (p : ℤ) (c : Content) (t : Topic) → seen_topic (with_partition p c t) ≡ with_seen_partition p (seen_of c) (seen_topic t)
with_topic (pos n) c t = λ i. record { name = t.name; partitions = set_seen t.partitions n c i }
with_topic (negsuc n) c t = refl

with_topics : (name : List ℕ) (p : ℤ) (c : Content) (ts : List Topic) → map seen_topic (with_partition_of name p c ts) ≡ with_seen name p (seen_of c) (map seen_topic ts)
with_topics name p c [] = refl
with_topics name p c (t ∷ ts) = by (bytes_eq t.name name) (with_topics name p c ts)
  where
    by : (b : Bool) → map seen_topic (with_partition_of name p c ts) ≡ with_seen name p (seen_of c) (map seen_topic ts)
        → map seen_topic (cond b (with_partition p c t ∷ ts) (t ∷ with_partition_of name p c ts))
        ≡ cond b (with_seen_partition p (seen_of c) (seen_topic t) ∷ map seen_topic ts) (seen_topic t ∷ with_seen name p (seen_of c) (map seen_topic ts))
    by true rest = ap (λ (u : SeenTopic). u ∷ map seen_topic ts) (with_topic p c t)
    by false rest = ap (λ (us : List SeenTopic). seen_topic t ∷ us) rest

pub seen_with : (s : State) (name : List ℕ) (p : ℤ) (c : Content) → seen_topics (with_content s name p c) ≡ with_seen name p (seen_of c) (seen_topics s)
seen_with s name p c = with_topics name p c s.topics

-- what is there already leaves the state
pub with_own : (s : State) (name : List ℕ) (p : ℤ) → with_content s name p (content_at s name p) ≡ s
with_own s name p = unchanged_at s (with_content s name p (content_at s name p)) name p (content_at s name p) refl refl

-- states that have seen the same still do with contents that have
pub both_with : (s z : State) (name : List ℕ) (p : ℤ) (c d : Content) → seen_topics s ≡ seen_topics z → seen_of c ≡ seen_of d
    → seen_topics (with_content s name p c) ≡ seen_topics (with_content z name p d)
both_with s z name p c d seen same =
    seen_with s name p c ∙ (λ i. with_seen name p (same i) (seen i)) ∙ sym (seen_with z name p d)

-- a content that has seen the same leaves the seen topics
pub seen_stays : (s : State) (name : List ℕ) (p : ℤ) (c : Content) → seen_of c ≡ seen_of (content_at s name p)
    → seen_topics (with_content s name p c) ≡ seen_topics s
seen_stays s name p c same = both_with s s name p c (content_at s name p) refl same ∙ ap seen_topics (with_own s name p)
