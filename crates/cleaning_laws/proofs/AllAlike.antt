-- Two lists of requests that are the same once their Cleans are left out are answered alike.
use Rattle.std.proofs.Common.{◌≡◌, ℕ, ℤ, Bool, true, false, not, cond, List, [], ◌∷◌, None, refl, ap, subst, ◌∙◌, arith}
use Rattle.std.specs.List.{filter, AllByRecursion}
use Rattle.request_frames.specs.Requests.{BodyValue, RequestValue}
use Rattle.content.specs.Logs.{IsPlainLog}
use Rattle.broker_state.specs.declared.config.Role.TheVariants.{Follower}
use Rattle.broker_state.specs.State.{ConfigValue, State, new_state}
use Rattle.broker_node.specs.Replies.{reply_to, reply}
use Rattle.broker_laws.proofs.AskedCleans.{asked_clean, asked_part, of_clean}
use Rattle.cleaning_laws.specs.Logs.{Logs, no_logs, IsLegalFromSome, IsStateOf}
use Rattle.cleaning_laws.specs.Alike.{seen_topics, AreAlike, StayAlike}
use Rattle.cleaning_laws.specs.Settled.{IsWithin, MayTrim, is_settled, AnswerAlike}
use Rattle.cleaning_laws.specs.Cleans.{is_clean, is_no_clean, without_cleans, compared_replies, AreWithin, replies_to, state_after, MayTrimAll, AnswerAllAlike}
use Rattle.cleaning_laws.proofs.Stated.{IsKept, IsSeenAlike, clean_keeps, clean_part_keeps, clean_seen, clean_part_seen, alike_cleaned, other_cleaned}
use Rattle.cleaning_laws.proofs.GrownLogs.{same_logs, stay, stay_on}
use Rattle.cleaning_laws.proofs.LongerLogs.{IsLater, within_longer}
use Rattle.cleaning_laws.proofs.ConfigStays.{config_stays, known_stays}
use Rattle.cleaning_laws.proofs.RepliesAlike.{answer_alike}
use Rattle.cleaning_laws.proofs.FollowersAlike.{follower_alike}
use Rattle.cleaning_laws.proofs.NewAlike.{new_alike, new_follower_alike}
use Rattle.cleaning_laws.proofs.LeftOut.{AreGood, same_but_left_out}

-- ---- tests

not_true : (b : Bool) → not b ≡ false → b ≡ true
not_true true e = refl
not_true false e = absurd cc

-- ---- one request

asks_none : (body : BodyValue) → is_clean body ≡ true → asked_clean body ≡ None → asked_part body ≡ None → ⊥
asks_none body is none no_part = absurd (grind (arith, is, none, no_part))

-- what a Clean leaves
kept_by : (logs : Logs) (s : State) (n : ℤ) (body : BodyValue) → is_clean body ≡ true → IsStateOf logs s → IsKept logs s (reply_to s n body).1
kept_by logs s n body e is =
    of_clean (λ b. IsKept logs s (reply_to s n b).1) (λ q. clean_keeps logs s n q is) (λ q. clean_part_keeps logs s n q is) body (asks_none body e)

-- the same without the logs
seen_by : (s : State) (n : ℤ) (body : BodyValue) → is_clean body ≡ true → IsSeenAlike s (reply_to s n body).1
seen_by s n body e = of_clean (λ b. IsSeenAlike s (reply_to s n b).1) (clean_seen s n) (clean_part_seen s n) body (asks_none body e)

-- what the law on one Clean says

pub clean_states : (logs : Logs) (s : State) (q : RequestValue) → is_clean q.body ≡ true → IsStateOf logs s → IsStateOf logs (reply s q).1
clean_states logs s q e is = (kept_by logs s q.correlation q.body e is).states

pub seen_kept : (s : State) (q : RequestValue) → is_clean q.body ≡ true → seen_topics (reply s q).1 ≡ seen_topics s
seen_kept s q e = (seen_by s q.correlation q.body e).seen

pub config_kept : (s : State) (q : RequestValue) → is_clean q.body ≡ true → (reply s q).1.config ≡ s.config
config_kept s q e = (seen_by s q.correlation q.body e).config

pub producer_kept : (s : State) (q : RequestValue) → is_clean q.body ≡ true → (reply s q).1.next_producer ≡ s.next_producer
producer_kept s q e = (seen_by s q.correlation q.body e).next_producer

-- the reply to a Clean isn't settled
settled_stays : (body : BodyValue) → is_settled body ≡ true → not (is_clean body) ≡ true
settled_stays body e = grind (arith, e)

-- a broker's state at first, and later ones
module _ (logs : Logs) (first : State) where
  abbrev IsGood : State → RequestValue → Type 0
  IsGood s q = IsWithin first logs q.body × MayTrim s q.body

  are_good : (s : State) (qs : List RequestValue) → AreWithin first logs qs → MayTrimAll s qs → AreGood reply IsGood s qs
  are_good s [] within may = tt
  are_good s (q ∷ qs) within may = ((within.0, may.0), are_good (reply s q).1 qs within.1 may.1)

  -- the states stay alike, and those of followers stay of the same logs
  pub record AreStill (s z : State) : Type 0 where
    pub states : StayAlike logs s z
    pub follow : first.config.role ≡ Follower → AreAlike logs s z
    pub later : IsLater first s

  later_on : (s : State) (q : RequestValue) → IsLater first s → IsLater first (reply s q).1
  later_on s q later = record { config = config_stays s q ∙ later.config; known = λ name p. known_stays s q name p ∙ later.known name p }

  -- the request in states of longer logs
  answered : (s z : State) (q : RequestValue) → is_no_clean q ≡ true → IsGood s q → IsGood z q → (still : AreStill s z) → AnswerAlike still.states.longer s z q
  answered s z q no_clean good other_good still =
      answer_alike still.states.longer s z q still.states.alike (within_longer first s logs still.states.longer q.body still.later still.states.grows good.0) good.1 other_good.1 no_clean

  both_follow : (s z : State) (q : RequestValue) → is_no_clean q ≡ true → IsGood s q → IsGood z q → AreStill s z → first.config.role ≡ Follower → AreAlike logs (reply s q).1 (reply z q).1
  both_follow s z q no_clean good other_good still follows =
      follower_alike logs s z q (still.follow follows) (ap (λ (g : ConfigValue). g.role) still.later.config ∙ follows)
      (within_longer first s logs logs q.body still.later (same_logs logs) good.0) good.1 other_good.1 no_clean

  both : (s z : State) (q : RequestValue) → is_no_clean q ≡ true → IsGood s q → IsGood z q → AreStill s z → AreStill (reply s q).1 (reply z q).1
  both s z q no_clean good other_good still = record {
    states = stay_on logs s z (reply s q).1 (reply z q).1 still.states (answered s z q no_clean good other_good still).states;
    follow = both_follow s z q no_clean good other_good still;
    later = later_on s q still.later;
  }

  results : (s z : State) (q : RequestValue) → is_settled q.body ≡ true → IsGood s q → IsGood z q → AreStill s z → (reply s q).0 ≡ (reply z q).0
  results s z q settled good other_good still =
      (answered s z q (settled_stays q.body settled) good other_good still).replies settled

  -- a Clean of either one

  one_cleaned : (longer : Logs) (s z : State) (q : RequestValue) → is_no_clean q ≡ false → AreAlike longer s z → AreAlike longer (reply s q).1 z
  one_cleaned longer s z q is_one alike = alike_cleaned longer s z (reply s q).1 alike (kept_by longer s q.correlation q.body (not_true (is_clean q.body) is_one) alike.one)

  two_cleaned : (longer : Logs) (s z : State) (q : RequestValue) → is_no_clean q ≡ false → AreAlike longer s z → AreAlike longer s (reply z q).1
  two_cleaned longer s z q is_one alike = other_cleaned longer s z (reply z q).1 alike (kept_by longer z q.correlation q.body (not_true (is_clean q.body) is_one) alike.other)

  on_one : (s z : State) (q : RequestValue) → is_no_clean q ≡ false → IsGood s q → AreStill s z → AreStill (reply s q).1 z
  on_one s z q is_one good still = record {
    states = stay_on logs s z (reply s q).1 z still.states (stay still.states.longer (reply s q).1 z (one_cleaned still.states.longer s z q is_one still.states.alike));
    follow = λ follows. one_cleaned logs s z q is_one (still.follow follows);
    later = later_on s q still.later;
  }

  on_other : (s z : State) (q : RequestValue) → is_no_clean q ≡ false → IsGood z q → AreStill s z → AreStill s (reply z q).1
  on_other s z q is_one good still = record {
    states = stay_on logs s z s (reply z q).1 still.states (stay still.states.longer s (reply z q).1 (two_cleaned still.states.longer s z q is_one still.states.alike));
    follow = λ follows. two_cleaned logs s z q is_one (still.follow follows);
    later = still.later;
  }

  -- the settled replies are the same, and the states after are such
  all_still : (s z : State) (qs ps : List RequestValue) → without_cleans qs ≡ without_cleans ps → AreGood reply IsGood s qs → AreGood reply IsGood z ps → AreStill s z
      → (compared_replies qs (replies_to s qs) ≡ compared_replies ps (replies_to z ps)) × AreStill (state_after s qs) (state_after z ps)
  all_still s z qs ps same good goods still =
      same_but_left_out reply is_no_clean (λ q. is_settled q.body) IsGood AreStill (λ q. settled_stays q.body) both results on_one on_other s z qs ps same good goods still

-- ---- what the lists share makes both within the logs

within_cleaned : (s : State) (logs : Logs) (body : BodyValue) → is_clean body ≡ true → IsWithin s logs body
within_cleaned s logs body e = of_clean (IsWithin s logs) (λ q. (tt, tt)) (λ q. (tt, tt)) body (asks_none body e)

module _ {X : Type 0} (stays : X → Bool) (IsGood : X → Type 0) (left_out_good : (x : X) → stays x ≡ false → IsGood x) where
  good_of_filter : (xs : List X) → AllByRecursion IsGood (filter stays xs) → AllByRecursion IsGood xs
  good_of_filter [] all = tt
  good_of_filter (x ∷ xs) all = by (stays x) refl all (good_of_filter xs)
    where
      by : (b : Bool) → stays x ≡ b → AllByRecursion IsGood (cond b (x ∷ filter stays xs) (filter stays xs)) → (AllByRecursion IsGood (filter stays xs) → AllByRecursion IsGood xs) → AllByRecursion IsGood (x ∷ xs)
      by true e all rest = (all.0, rest all.1)
      by false e all rest = (left_out_good x e, rest all)

  filter_good : (xs : List X) → AllByRecursion IsGood xs → AllByRecursion IsGood (filter stays xs)
  filter_good [] all = tt
  filter_good (x ∷ xs) all = by (stays x) (filter_good xs all.1)
    where
      by : (b : Bool) → AllByRecursion IsGood (filter stays xs) → AllByRecursion IsGood (cond b (x ∷ filter stays xs) (filter stays xs))
      by true rest = (all.0, rest)
      by false rest = rest

  same_good : (xs ys : List X) → filter stays xs ≡ filter stays ys → AllByRecursion IsGood xs → AllByRecursion IsGood ys
  same_good xs ys same all = good_of_filter ys (subst (AllByRecursion IsGood) same (filter_good xs all))

-- ---- lists of requests

still_alike : (logs : Logs) (s z : State) (qs ps : List RequestValue) → AreAlike logs s z → AreWithin s logs qs → MayTrimAll s qs → MayTrimAll z ps → without_cleans qs ≡ without_cleans ps
    → (compared_replies qs (replies_to s qs) ≡ compared_replies ps (replies_to z ps)) × AreStill logs s (state_after s qs) (state_after z ps)
still_alike logs s z qs ps alike within may other_may same =
    all_still logs s s z qs ps same (are_good logs s s qs within may)
    (are_good logs s z ps (same_good is_no_clean (λ (q : RequestValue). IsWithin s logs q.body) (λ q e. within_cleaned s logs q.body (not_true (is_clean q.body) e)) qs ps same within) other_may)
    (record { states = stay logs s z alike; follow = λ follows. alike; later = record { config = refl; known = λ name p. refl } })

pub all_alike : (logs : Logs) (s z : State) (qs ps : List RequestValue) → AreAlike logs s z → AreWithin s logs qs → MayTrimAll s qs → MayTrimAll z ps → without_cleans qs ≡ without_cleans ps → AnswerAllAlike logs s z qs ps
all_alike logs s z qs ps alike within may other_may same =
    let all = still_alike logs s z qs ps alike within may other_may same in record { states = all.1.states; replies = all.0 }

pub followers_alike : (logs : Logs) (s z : State) (qs ps : List RequestValue) → AreAlike logs s z → s.config.role ≡ Follower → AreWithin s logs qs → MayTrimAll s qs → MayTrimAll z ps → without_cleans qs ≡ without_cleans ps
    → AreAlike logs (state_after s qs) (state_after z ps)
followers_alike logs s z qs ps alike follows within may other_may same = (still_alike logs s z qs ps alike within may other_may same).1.follow follows

-- in particular from the start
pub new_all_alike : (g : ConfigValue) (qs ps : List RequestValue) → AreWithin (new_state g) no_logs qs → MayTrimAll (new_state g) qs → MayTrimAll (new_state g) ps → without_cleans qs ≡ without_cleans ps → AnswerAllAlike no_logs (new_state g) (new_state g) qs ps
new_all_alike g qs ps within may other_may same = all_alike no_logs (new_state g) (new_state g) qs ps (new_alike g) within may other_may same

pub new_follower_all_alike : (g : ConfigValue) (logs : Logs) (qs ps : List RequestValue) → g.role ≡ Follower → ((name : List ℕ) (p : ℤ) → IsPlainLog (logs name p) × IsLegalFromSome (logs name p))
    → AreWithin (new_state g) logs qs → MayTrimAll (new_state g) qs → MayTrimAll (new_state g) ps → without_cleans qs ≡ without_cleans ps → AnswerAllAlike logs (new_state g) (new_state g) qs ps
new_follower_all_alike g logs qs ps follows each within may other_may same = all_alike logs (new_state g) (new_state g) qs ps (new_follower_alike g logs follows each) within may other_may same
