-- A broker stays one of the logs when a partition gets another content, and when it is cleaned.
use Rattle.std.proofs.Common.{◌≡◌, ◌≢◌, ℕ, ℤ, Bool, true, false, not, List, [], ◌∷◌, Option, refl, sym, ap, subst, ◌∙◌, true≢false, arith}
use Rattle.std.specs.Prelude.{is_some, bytes_eq}
use Rattle.std.specs.Option.{unwrap_or}
use Rattle.std.specs.Ordering.{int_eq}
use Rattle.std.proofs.lemmas.Int.{ints}
use Rattle.std.proofs.lemmas.Slice.Eq.{bytes_eq-Decides}
use Rattle.batch_codec.specs.Values.{BatchValue}
use Rattle.content.specs.Content.{Content, empty}
use Rattle.content_laws.proofs.CopyClean.{copy_of_clean, copy_of_part}
use Rattle.content_laws.proofs.LeaderCopies.{leader_clean, leader_part}
use Rattle.request_frames.specs.Clean.{CleanValue}
use Rattle.request_frames.specs.CleanPart.{CleanPartValue}
use Rattle.request_frames.specs.Requests.BodyValue.{clean, clean_part}
use Rattle.broker_state.specs.declared.config.Role.{Role}
use Rattle.broker_state.specs.declared.config.Role.TheVariants.{Leader, Follower}
use Rattle.broker_state.specs.State.{State, partition_at, is_known, content_at, with_content}
use Rattle.broker_state.proofs.OneContent.{with_same, with_unknown, other_index, other_name}
use Rattle.answering.specs.declared.codes.ErrorCode.TheVariants.{UnknownTopicOrPartition}
use Rattle.answering.specs.Lists.{fault_if, first_some}
use Rattle.answering.specs.Work.{answer, answer_after}
use Rattle.copy_requests.specs.declared.clean.Cleaning.{Cleaning}
use Rattle.copy_requests.specs.declared.clean.Cleaning.TheVariants.{Whole, Part}
use Rattle.copy_requests.specs.Clean.{cleaned, cleaning_work, asked_part}
use Rattle.broker_laws.proofs.CleanFits.{content_cleaned}
use Rattle.broker_node.specs.Replies.{reply_to}
use Rattle.cleaning_laws.specs.Logs.{Logs, IsCopyAs, IsPartitionOf, IsStateOf}
use Rattle.cleaning_laws.specs.Alike.{seen_of, seen_topics, AreAlike}
use Rattle.cleaning_laws.proofs.Seen.{seen_stays}

-- ---- another content of one partition

-- what a broker has at a place, if anything, is a partition of the log
abbrev pub IsAt : Role → Option Content → List BatchValue → Type 0
IsAt role o log = is_some o ≡ true → IsPartitionOf role (unwrap_or o empty) log

pub other_bytes : (x y : List ℕ) → bytes_eq x y ≡ false → x ≢ y
other_bytes x y e same = true≢false (sym ((bytes_eq-Decides x y).1 same) ∙ e)

pub other_int : (x y : ℤ) → int_eq x y ≡ false → x ≢ y
other_int x y e same = true≢false (sym (grind (arith, ints, same)) ∙ e)

pub same_int : (x y : ℤ) → int_eq x y ≡ true → x ≡ y
same_int x y e = grind (arith, ints, e)

module _ (logs longer : Logs) (s : State) (name : List ℕ) (p : ℤ) (c : Content) (is : IsStateOf logs s)
    (names : (n : List ℕ) (q : ℤ) → n ≢ name → longer n q ≡ logs n q) (indices : (n : List ℕ) (q : ℤ) → q ≢ p → longer n q ≡ logs n q)
    (here : is_known s name p ≡ true → IsPartitionOf s.config.role c (longer name p)) where
  after : State
  after = with_content s name p c

  elsewhere : (n : List ℕ) (q : ℤ) → partition_at (with_content s name p c) n q ≡ partition_at s n q → longer n q ≡ logs n q → IsAt s.config.role (partition_at (with_content s name p c) n q) (longer n q)
  elsewhere n q same log = subst (λ (o : Option Content). IsAt s.config.role o (longer n q)) (sym same) (subst (λ (l : List BatchValue). IsAt s.config.role (partition_at s n q) l) (sym log) (is n q))

  it : (b : Bool) → is_known s name p ≡ b → IsAt s.config.role (partition_at (with_content s name p c) name p) (longer name p)
  it true known = subst (λ (o : Option Content). IsAt s.config.role o (longer name p)) (sym (with_same s name p c known)) (λ e. here known)
  it false unknown = λ known.
      let none : is_known s name p ≡ true = sym (ap (λ (x : State). is_known x name p) (with_unknown s name p c unknown)) ∙ known in
      absurd (true≢false (sym none ∙ unknown))

  by : (n : List ℕ) (q : ℤ) (a b : Bool) → bytes_eq n name ≡ a → int_eq q p ≡ b → IsAt s.config.role (partition_at (with_content s name p c) n q) (longer n q)
  by n q false b e f = elsewhere n q (other_name s.topics name n q p c (other_bytes n name e)) (names n q (other_bytes n name e))
  by n q true false e f = elsewhere n q (other_index s.topics name n q p c (other_int q p f)) (indices n q (other_int q p f))
  by n q true true e f =
      let one : n ≡ name = (bytes_eq-Decides n name).0 e in
      let two : q ≡ p = same_int q p f in
      subst (λ (m : List ℕ). IsAt s.config.role (partition_at (with_content s name p c) m q) (longer m q)) (sym one)
      (subst (λ (r : ℤ). IsAt s.config.role (partition_at (with_content s name p c) name r) (longer name r)) (sym two) (it (is_known s name p) refl))

  pub state_with : IsStateOf longer (with_content s name p c)
  state_with n q = by n q (bytes_eq n name) (int_eq q p) refl refl

-- ---- cleaning

copy_cleaned : (role : Role) (cleaning : Cleaning) (c : Content) (log : List BatchValue) → IsPartitionOf role c log → IsCopyAs role (cleaned cleaning c) log
copy_cleaned Leader (Whole upto tomb_before) c log is = leader_clean upto tomb_before c log is.content is.plain is.copy
copy_cleaned Leader (Part part) c log is = leader_part part c log is.content is.plain is.copy
copy_cleaned Follower (Whole upto tomb_before) c log is = (copy_of_clean upto tomb_before c log is.content is.plain is.copy.0, is.copy.1)
copy_cleaned Follower (Part part) c log is = (copy_of_part part c log is.content is.plain is.copy.0, is.copy.1)

partition_cleaned : (role : Role) (cleaning : Cleaning) (c : Content) (log : List BatchValue) → IsPartitionOf role c log → IsPartitionOf role (cleaned cleaning c) log
partition_cleaned role cleaning c log is = record {
  content = content_cleaned cleaning c is.content;
  plain = is.plain;
  copy = copy_cleaned role cleaning c log is;
}

seen_left : (cleaning : Cleaning) (c : Content) → seen_of (cleaned cleaning c) ≡ seen_of c
seen_left (Whole upto tomb_before) c = refl
seen_left (Part part) c = refl

-- what a Clean leaves: the logs, all names, starts and covers, the configuration, and the next producer id
pub record IsKept (logs : Logs) (s after : State) : Type 0 where
  pub states : IsStateOf logs after
  pub seen : seen_topics after ≡ seen_topics s
  pub config : after.config ≡ s.config
  pub next_producer : after.next_producer ≡ s.next_producer

-- the same without the logs
pub record IsSeenAlike (s after : State) : Type 0 where
  pub seen : seen_topics after ≡ seen_topics s
  pub config : after.config ≡ s.config
  pub next_producer : after.next_producer ≡ s.next_producer

-- ---- a cleaning of a partition, by the test whether it is known

module _ (s : State) (name : List ℕ) (p : ℤ) (cleaning : Cleaning) where
  abbrev left : State
  left = (answer (cleaning_work s name p cleaning) s).1

  abbrev if_known : Bool → State
  if_known known = (answer_after (first_some (fault_if (not known) UnknownTopicOrPartition ∷ [])) (cleaning_work s name p cleaning) s).1

  left_states : (logs : Logs) → IsStateOf logs s → IsStateOf logs left
  left_states logs is = by (is_known s name p)
    where
      by : (b : Bool) → IsStateOf logs (if_known b)
      by true = state_with logs logs s name p (cleaned cleaning (content_at s name p)) is (λ n q e. refl) (λ n q e. refl) (λ known. partition_cleaned s.config.role cleaning (content_at s name p) (logs name p) (is name p known))
      by false = is

  left_seen : IsSeenAlike s left
  left_seen = by (is_known s name p)
    where
      by : (b : Bool) → IsSeenAlike s (if_known b)
      by true = record { seen = seen_stays s name p (cleaned cleaning (content_at s name p)) (seen_left cleaning (content_at s name p)); config = refl; next_producer = refl }
      by false = record { seen = refl; config = refl; next_producer = refl }

  left_kept : (logs : Logs) → IsStateOf logs s → IsKept logs s left
  left_kept logs is = record { states = left_states logs is; seen = left_seen.seen; config = left_seen.config; next_producer = left_seen.next_producer }

-- ---- a Clean, in either version

pub clean_keeps : (logs : Logs) (s : State) (n : ℤ) (q : CleanValue) → IsStateOf logs s → IsKept logs s (reply_to s n (clean q)).1
clean_keeps logs s n q is = left_kept s q.topic q.partition (Whole q.upto q.tomb_before) logs is

pub clean_part_keeps : (logs : Logs) (s : State) (n : ℤ) (q : CleanPartValue) → IsStateOf logs s → IsKept logs s (reply_to s n (clean_part q)).1
clean_part_keeps logs s n q is = left_kept s q.topic q.partition (Part (asked_part q)) logs is

pub clean_seen : (s : State) (n : ℤ) (q : CleanValue) → IsSeenAlike s (reply_to s n (clean q)).1
clean_seen s n q = left_seen s q.topic q.partition (Whole q.upto q.tomb_before)

pub clean_part_seen : (s : State) (n : ℤ) (q : CleanPartValue) → IsSeenAlike s (reply_to s n (clean_part q)).1
clean_part_seen s n q = left_seen s q.topic q.partition (Part (asked_part q))

-- so of two that are alike either may be cleaned
pub alike_cleaned : (logs : Logs) (s z m : State) → AreAlike logs s z → IsKept logs s m → AreAlike logs m z
alike_cleaned logs s z m alike kept = record {
  one = kept.states;
  other = alike.other;
  config = kept.config ∙ alike.config;
  seen = kept.seen ∙ alike.seen;
  next_producer = kept.next_producer ∙ alike.next_producer;
}

pub other_cleaned : (logs : Logs) (s z m : State) → AreAlike logs s z → IsKept logs z m → AreAlike logs s m
other_cleaned logs s z m alike kept = record {
  one = alike.one;
  other = kept.states;
  config = alike.config ∙ sym kept.config;
  seen = alike.seen ∙ sym kept.seen;
  next_producer = alike.next_producer ∙ sym kept.next_producer;
}
