-- A Fetch that waits sleeps, who sleeps waits, and sleeps on where its partitions grow within what it stands.
use Rattle.std.proofs.Common.{◌≡◌, ℕ, ℤ, ◌+◌, ◌-◌, ◌<◌, ◌≤◌, ◌≤ℤ◌, inl, inr, arith, Bool, true, false, List, [], ◌∷◌, ◌++◌, length, Option, Some, None, sym, ap, subst, refl, ◌∙◌, append_assoc, append-nil}
use Rattle.std.specs.Prelude.{◌&&◌, ◌||◌, nat_eq, nat_lt, bytes_eq}
use Rattle.std.specs.List.{flat_map, list_any}
use Rattle.std.specs.Ordering.{int_eq}
use Rattle.std.proofs.lemmas.Bool.Decides.{nat_tests}
use Rattle.std.proofs.lemmas.Grind.{flat_map-append}
use Rattle.std.proofs.lemmas.Int.{ints}
use Rattle.std.proofs.lemmas.List.{length-append}
use Rattle.batch_codec.specs.Values.{BatchValue}
use Rattle.batch_codec.specs.Grammar.{batch_encoding}
use Rattle.content.specs.Content.{Content, end}
use Rattle.frame_fields.specs.Types.{TopicOf}
use Rattle.request_frames.specs.Fetch.{FetchValue, FetchPartitionValue}
use Rattle.broker_state.specs.State.{State, content_at, is_known}
use Rattle.log_requests.specs.Fetch.{fetch_limit}
use Rattle.fetch_waits.specs.Waiting.{awaited_bytes, fetch_waits}
use Rattle.fetch_waits.specs.Sleeping.{Allows, AreBehind, AreLeftOf, Contents, FitsRoom, GrowsBy, Growths, RoomsIn, RoomsOf, Sleeps, is_asked, more_in, more_of, there_at, there_in, there_of}
use Rattle.fetch_waits.proofs.Left.{LeftOfBoth, all_left, left_all_twice, left_are_behind, left_bytes, left_of_both}
use Rattle.fetch_waits.proofs.Growing.{GrowFor, GrowIn, StandFor, StandIn, StandsOne, there_for, total, total_in, waits_on}

-- ---- what is asked for

same_bytes : (x : List ℕ) → bytes_eq x x ≡ true
same_bytes [] = refl
same_bytes (b ∷ bs) = let is : nat_eq b b ≡ true = grind (arith, nat_tests) in λ i. is i && same_bytes bs i

or_left : (a b : Bool) → a ≡ true → (a || b) ≡ true
or_left a b is = ap (λ (t : Bool). t || b) is

or_right : (a b : Bool) → b ≡ true → (a || b) ≡ true
or_right true b is = refl
or_right false b is = is

abbrev asks : List FetchPartitionValue → ℤ → Bool
asks es p = list_any (λ (e : FetchPartitionValue). int_eq e.partition p) es

abbrev asks_in : List (TopicOf FetchPartitionValue) → List ℕ → ℤ → Bool
asks_in ts name p = list_any (λ (t : TopicOf FetchPartitionValue). bytes_eq t.name name && asks t.entries p) ts

asks_first : (e : FetchPartitionValue) (es : List FetchPartitionValue) → asks (e ∷ es) e.partition ≡ true
asks_first e es = let is : int_eq e.partition e.partition ≡ true = grind (arith, ints) in or_left (int_eq e.partition e.partition) (asks es e.partition) is

both_hold : (a b : Bool) → a ≡ true → b ≡ true → (a && b) ≡ true
both_hold a b p q = λ i. p i && q i

asks_head : (t : TopicOf FetchPartitionValue) (ts : List (TopicOf FetchPartitionValue)) (p : ℤ) → asks t.entries p ≡ true → asks_in (t ∷ ts) t.name p ≡ true
asks_head t ts p is = or_left (bytes_eq t.name t.name && asks t.entries p) (asks_in ts t.name p) (both_hold (bytes_eq t.name t.name) (asks t.entries p) (same_bytes t.name) is)

-- ---- growing

module _ (s t : State) (by : Growths) where
  grow_for : (name : List ℕ) (es : List FetchPartitionValue) → ((p : ℤ) → asks es p ≡ true → GrowsBy (content_at s name p) (content_at t name p) (by name p)) → GrowFor s t name by es
  grow_for name [] each = tt
  grow_for name (e ∷ es) each = (each e.partition (asks_first e es), grow_for name es (λ p is. each p (or_right (int_eq e.partition p) (asks es p) is)))

  grow_in : (ts : List (TopicOf FetchPartitionValue)) → ((name : List ℕ) (p : ℤ) → asks_in ts name p ≡ true → GrowsBy (content_at s name p) (content_at t name p) (by name p)) → GrowIn s t by ts
  grow_in [] each = tt
  grow_in (x ∷ xs) each = (
    grow_for x.name x.entries (λ p is. each x.name p (asks_head x xs p is)),
    grow_in xs (λ name p is. each name p (or_right (bytes_eq x.name name && asks x.entries p) (asks_in xs name p) is)),
  )

-- ---- standing

room_allows : (limit there more : ℕ) (room : Option ℕ) → Allows limit there room → FitsRoom more room → there + more ≤ limit
room_allows limit there more None allows fits = omega (arith, allows, fits)
room_allows limit there more (Some room) allows fits = omega (arith, allows, fits)

no_room : (more : ℕ) (room : Option ℕ) → room ≡ None → FitsRoom more room → more ≡ 0
no_room more room none fits = subst (FitsRoom more) none fits

module _ (s : State) (by : Growths) (room : List ℕ → ℤ → Option ℕ) (forced : ℕ) where
  stands_one : (name : List ℕ) (e : FetchPartitionValue) (before missing now : ℕ) → FitsRoom (by name e.partition) (room name e.partition) → (before < forced → room name e.partition ≡ None)
      → (forced ≤ before → Allows (fetch_limit e.max_bytes) (there_at s name e) (room name e.partition)) → (before < forced → missing ≤ now) → StandsOne name e s (by name e.partition) missing now
  stands_one name e before missing now fits none allows calm = by_test (nat_lt before forced) refl where
    by_test : (t : Bool) → nat_lt before forced ≡ t → StandsOne name e s (by name e.partition) missing now
    by_test true is = let less : before < forced = grind (arith, is) in inl (no_room (by name e.partition) (room name e.partition) (none less) fits, calm less)
    by_test false is = let past : forced ≤ before = grind (arith, is) in inr (room_allows (fetch_limit e.max_bytes) (there_at s name e) (by name e.partition) (room name e.partition) (allows past) fits)

  still_calm : (name : List ℕ) (e : FetchPartitionValue) (before missing now : ℕ) → FitsRoom (by name e.partition) (room name e.partition) → (before < forced → room name e.partition ≡ None) → (before < forced → missing ≤ now)
      → before + 1 < forced → missing - there_at s name e ≤ now - (there_at s name e + by name e.partition)
  still_calm name e before missing now fits none calm less =
      let quiet : by name e.partition ≡ 0 = no_room (by name e.partition) (room name e.partition) (none (omega (arith, less))) fits in
      let same : missing ≤ now = calm (omega (arith, less)) in
      omega (arith, quiet, same)

  stand_for : (name : List ℕ) (es : List FetchPartitionValue) (before missing now : ℕ) → ((p : ℤ) → asks es p ≡ true → FitsRoom (by name p) (room name p)) → RoomsOf s room name forced before es → (before < forced → missing ≤ now)
      → StandFor s name by es missing now × (before + length es < forced → missing - there_for s name es ≤ now - total s name by es)
  stand_for name [] before missing now fits rooms calm = (tt, λ less. let same : missing ≤ now = calm (omega (arith, less)) in omega (arith, same))
  stand_for name (e ∷ es) before missing now fits rooms calm =
      let first = fits e.partition (asks_first e es) in
      let rest = stand_for name es (before + 1) (missing - there_at s name e) (now - (there_at s name e + by name e.partition)) (λ p is. fits p (or_right (int_eq e.partition p) (asks es p) is)) rooms.2
      (still_calm name e before missing now first rooms.0 calm) in (
        (stands_one name e before missing now first rooms.0 rooms.1 calm, rest.0),
        λ less. let same = rest.1 (omega (arith, less)) in omega (arith, same),
      )

  stand_in : (ts : List (TopicOf FetchPartitionValue)) (before missing now : ℕ) → ((name : List ℕ) (p : ℤ) → asks_in ts name p ≡ true → FitsRoom (by name p) (room name p)) → RoomsIn s room forced before ts → (before < forced → missing ≤ now)
      → StandIn s by ts missing now
  stand_in [] before missing now fits rooms calm = tt
  stand_in (x ∷ xs) before missing now fits rooms calm =
      let first = stand_for x.name x.entries before missing now (λ p is. fits x.name p (asks_head x xs p is)) rooms.0 calm in (
        first.0,
        stand_in xs (before + length x.entries) (missing - there_for s x.name x.entries) (now - total s x.name by x.entries)
            (λ name p is. fits name p (or_right (bytes_eq x.name name && asks x.entries p) (asks_in xs name p) is)) rooms.1 first.1,
      )

-- ---- sums

total_is : (s : State) (name : List ℕ) (by : Growths) (es : List FetchPartitionValue) → total s name by es ≡ there_of s name es + more_of name by es
total_is s name by [] = refl
total_is s name by (e ∷ es) = let rest = total_is s name by es in omega (arith, rest)

total_in_is : (s : State) (by : Growths) (ts : List (TopicOf FetchPartitionValue)) → total_in s by ts ≡ there_in s ts + more_in by ts
total_in_is s by [] = refl
total_in_is s by (t ∷ ts) = let rest = total_in_is s by ts in let first = total_is s t.name by t.entries in omega (arith, rest, first)

-- ---- sleeping

-- a Fetch that waits sleeps, with what was counted of it
pub begins_to_sleep : (s : State) (q : FetchValue) (missing forced : ℕ) (room : List ℕ → ℤ → Option ℕ) → fetch_waits s q ≡ true → RoomsIn s room forced 0 q.topics → missing ≡ awaited_bytes q - there_in s q.topics
    → Sleeps s (content_at s) q missing room
begins_to_sleep s q missing forced room waits rooms is = λ t by grows less fits.
    let sum = total_in_is s by q.topics in
    waits_on s t q by grows.config grows.known (grow_in s t by q.topics grows.each) (stand_in s by room forced q.topics 0 (awaited_bytes q) (awaited_bytes q) fits rooms (λ _. omega arith)) (omega (arith, sum, is, less)) waits

abbrev pub nothing : Growths
nothing = λ name p. 0

more_nothing : (name : List ℕ) (es : List FetchPartitionValue) → more_of name nothing es ≡ 0
more_nothing name [] = refl
more_nothing name (e ∷ es) = let rest = more_nothing name es in omega (arith, rest)

more_in_nothing : (ts : List (TopicOf FetchPartitionValue)) → more_in nothing ts ≡ 0
more_in_nothing [] = refl
more_in_nothing (t ∷ ts) = let first = more_nothing t.name t.entries in let rest = more_in_nothing ts in omega (arith, first, rest)

pub grows_nothing : (c d : Content) → d ≡ c → GrowsBy c d 0
grows_nothing c d same = record {
  left = c.kept;
  batches = [];
  start = ap (λ (x : Content). x.start) same;
  are_left = all_left c.kept;
  kept = ap (λ (x : Content). x.kept) same ∙ sym (append-nil c.kept);
  behind = tt;
  ends = let ends : end d ≡ end c = ap end same in omega (arith, ints, ends);
  bytes = omega arith;
}

fits_nothing : (room : Option ℕ) → FitsRoom 0 room
fits_nothing None = refl
fits_nothing (Some room) = omega arith

-- who sleeps waits
pub sleeps_now : (s t : State) (held : Contents) (q : FetchValue) (missing : ℕ) (room : List ℕ → ℤ → Option ℕ) → t.config ≡ s.config → ((name : List ℕ) (p : ℤ) → is_known t name p ≡ is_known s name p)
    → ((name : List ℕ) (p : ℤ) → is_asked q name p ≡ true → content_at t name p ≡ held name p) → 0 < missing → Sleeps s held q missing room → fetch_waits t q ≡ true
sleeps_now s t held q missing room config known same some sleeps =
    let none = more_in_nothing q.topics in
    sleeps t nothing (record { config = config; known = known; each = λ name p is. grows_nothing (held name p) (content_at t name p) (same name p is) }) (omega (arith, none, some)) (λ name p is. fits_nothing (room name p))

-- ---- sleeping on

abbrev pub both : Growths → Growths → Growths
both f g = λ name p. f name p + g name p

more_both : (name : List ℕ) (f g : Growths) (es : List FetchPartitionValue) → more_of name (both f g) es ≡ more_of name f es + more_of name g es
more_both name f g [] = refl
more_both name f g (e ∷ es) = let rest = more_both name f g es in omega (arith, rest)

more_in_both : (f g : Growths) (ts : List (TopicOf FetchPartitionValue)) → more_in (both f g) ts ≡ more_in f ts + more_in g ts
more_in_both f g [] = refl
more_in_both f g (t ∷ ts) = let first = more_both t.name f g t.entries in let rest = more_in_both f g ts in omega (arith, first, rest)

behind_more : (low high : ℤ) (xs ys : List BatchValue) → low ≤ℤ high → AreBehind low xs → AreBehind high ys → AreBehind low (xs ++ ys)
behind_more low high [] [] less first second = tt
behind_more low high [] (y ∷ ys) less first second = (omega (arith, ints, less, second.0), behind_more low high [] ys less tt second.1)
behind_more low high (x ∷ xs) ys less first second = (first.0, behind_more low high xs ys less first.1 second)

-- one growth, and then another
pub grows_twice : (a b c : Content) (m n : ℕ) → GrowsBy a b m → GrowsBy b c n → GrowsBy a c (m + n)
grows_twice a b c m n first second = record {
  left = both.front;
  batches = both.back ++ second.batches;
  start = second.start ∙ first.start;
  are_left = left_all_twice both.front first.left a.kept both.in_front first.are_left;
  kept = second.kept ∙ ap (λ (kept : List BatchValue). kept ++ second.batches) both.whole ∙ append_assoc both.front both.back second.batches;
  behind = behind_more (end a) (end b) both.back second.batches first.ends (left_are_behind (end a) both.back first.batches both.in_back first.behind) second.behind;
  ends = omega (arith, ints, first.ends, second.ends);
  bytes =
      let sum = ap length (flat_map-append batch_encoding both.back second.batches) ∙ length-append (flat_map batch_encoding both.back) (flat_map batch_encoding second.batches) in
      let fewer = left_bytes both.back first.batches both.in_back in
      omega (arith, sum, fewer, first.bytes, second.bytes);
} where
  both : LeftOfBoth second.left first.left first.batches
  both = left_of_both second.left first.left first.batches (subst (AreLeftOf second.left) first.kept second.are_left)

-- what is left of a room
abbrev pub less_room : Option ℕ → ℕ → Option ℕ
less_room None more = None
less_room (Some room) more = Some (room - more)

fits_twice : (m n : ℕ) (room : Option ℕ) → FitsRoom m room → FitsRoom n (less_room room m) → FitsRoom (m + n) room
fits_twice m n None first second = omega (arith, first, second)
fits_twice m n (Some room) first second = omega (arith, first, second)

-- Where its partitions grew so, within what it stands, a Fetch sleeps on, and so much less is missing.
pub sleeps_on : (s : State) (held now : Contents) (q : FetchValue) (missing : ℕ) (room : List ℕ → ℤ → Option ℕ) (by : Growths) → Sleeps s held q missing room
    → ((name : List ℕ) (p : ℤ) → is_asked q name p ≡ true → GrowsBy (held name p) (now name p) (by name p)) → ((name : List ℕ) (p : ℤ) → is_asked q name p ≡ true → FitsRoom (by name p) (room name p))
    → Sleeps s now q (missing - more_in by q.topics) (λ name p. less_room (room name p) (by name p))
sleeps_on s held now q missing room by sleeps grew fits = λ t more grows less within.
    let sum = more_in_both by more q.topics in
    sleeps t (both by more) (record {
      config = grows.config;
      known = grows.known;
      each = λ name p is. grows_twice (held name p) (now name p) (content_at t name p) (by name p) (more name p) (grew name p is) (grows.each name p is);
    }) (omega (arith, sum, less)) (λ name p is. fits_twice (by name p) (more name p) (room name p) (fits name p is) (within name p is))

-- With less room, and less that is missing, it sleeps too.
fits_more : (more : ℕ) (low high : Option ℕ) → ((n : ℕ) → FitsRoom n low → FitsRoom n high) → FitsRoom more low → FitsRoom more high
fits_more more low high most fits = most more fits

pub sleeps_less : (s : State) (held : Contents) (q : FetchValue) (missing less : ℕ) (room low : List ℕ → ℤ → Option ℕ) → less ≤ missing → ((name : List ℕ) (p : ℤ) (n : ℕ) → is_asked q name p ≡ true → FitsRoom n (low name p) → FitsRoom n (room name p))
    → Sleeps s held q missing room → Sleeps s held q less low
sleeps_less s held q missing less room low most allows sleeps = λ t by grows few fits. sleeps t by grows (omega (arith, most, few)) (λ name p is. allows name p (by name p) is (fits name p is))
