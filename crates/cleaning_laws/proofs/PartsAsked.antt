-- Cleans of parts, one after another, leave what one Clean leaves.
use Rattle.std.proofs.Common.{◌≡◌, ℕ, zero, suc, ℤ, pos, negsuc, Bool, true, false, not, cond, List, [], ◌∷◌, set, refl, sym, ap, ◌∙◌}
use Rattle.std.specs.Prelude.{◌≤ℤ◌, bytes_eq}
use Rattle.std.specs.Option.{unwrap_or}
use Rattle.content.specs.declared.part.CleaningPart.{CleaningPart}
use Rattle.content.specs.Content.{Content, empty}
use Rattle.content.specs.Parts.{part_of, clean_part, clean_in_parts, AreEnds}
use Rattle.content_laws.proofs.CleaningParts.{parts_content}
use Rattle.request_frames.specs.Clean.{CleanValue}
use Rattle.request_frames.specs.Requests.BodyValue.{clean as clean_body}
use Rattle.answering.specs.declared.codes.ErrorCode.TheVariants.{UnknownTopicOrPartition}
use Rattle.answering.specs.Lists.{fault_if, first_some}
use Rattle.answering.specs.Work.{answer, answer_after}
use Rattle.broker_state.specs.State.{Topic, State, is_known, content_at, with_partition, with_partition_of, with_content}
use Rattle.broker_state.specs.Sound.{IsSound}
use Rattle.broker_state.proofs.OneContent.{with_same, with_unknown}
use Rattle.broker_state.proofs.SoundStates.{content_valid}
use Rattle.copy_requests.specs.declared.clean.Cleaning.{Cleaning}
use Rattle.copy_requests.specs.declared.clean.Cleaning.TheVariants.{Whole, Part}
use Rattle.copy_requests.specs.Clean.{cleaned, cleaning_work}
use Rattle.broker_node.specs.Replies.{reply_to}
use Rattle.cleaning_laws.specs.Cleans.{state_after}
use Rattle.cleaning_laws.specs.Parts.{asked_in_parts}
use Rattle.cleaning_laws.proofs.Seen.{with_own}

-- ---- a partition that gets two contents, one after the other, has the second

set_twice : {X : Type 0} (xs : List X) (n : ℕ) (x y : X) → set (set xs n x) n y ≡ set xs n y
set_twice [] n x y = refl
set_twice (z ∷ zs) zero x y = refl
set_twice (z ∷ zs) (suc n) x y = ap (λ us. z ∷ us) (set_twice zs n x y)

partition_twice : (p : ℤ) (c d : Content) (t : Topic) → with_partition p d (with_partition p c t) ≡ with_partition p d t
partition_twice (pos n) c d t = λ i. record t { partitions = set_twice t.partitions n c d i }
partition_twice (negsuc n) c d t = refl

name_stays : (p : ℤ) (c : Content) (t : Topic) → (with_partition p c t).name ≡ t.name
name_stays (pos n) c t = refl
name_stays (negsuc n) c t = refl

topics_twice : (name : List ℕ) (p : ℤ) (c d : Content) (ts : List Topic) → with_partition_of name p d (with_partition_of name p c ts) ≡ with_partition_of name p d ts
topics_twice name p c d [] = refl
topics_twice name p c d (t ∷ ts) = by (bytes_eq t.name name) refl (topics_twice name p c d ts)
  where
    by : (b : Bool) → bytes_eq t.name name ≡ b → with_partition_of name p d (with_partition_of name p c ts) ≡ with_partition_of name p d ts
        → with_partition_of name p d (cond b (with_partition p c t ∷ ts) (t ∷ with_partition_of name p c ts)) ≡ cond b (with_partition p d t ∷ ts) (t ∷ with_partition_of name p d ts)
    by true e rest =
        let named : bytes_eq (with_partition p c t).name name ≡ true = ap (λ n. bytes_eq n name) (name_stays p c t) ∙ e in
        ap (λ b. cond b (with_partition p d (with_partition p c t) ∷ ts) (with_partition p c t ∷ with_partition_of name p d ts)) named
        ∙ ap (λ u. u ∷ ts) (partition_twice p c d t)
    by false e rest =
        ap (λ b. cond b (with_partition p d t ∷ with_partition_of name p c ts) (t ∷ with_partition_of name p d (with_partition_of name p c ts))) e
        ∙ ap (λ us. t ∷ us) rest

with_twice : (s : State) (name : List ℕ) (p : ℤ) (c d : Content) → with_content (with_content s name p c) name p d ≡ with_content s name p d
with_twice s name p c d = λ i. record s { topics = topics_twice name p c d s.topics i }

-- ---- one cleaning

module _ (s : State) (name : List ℕ) (p : ℤ) where
  -- of an unknown partition nothing changes
  left_is : (cleaning : Cleaning) → (answer (cleaning_work s name p cleaning) s).1 ≡ with_content s name p (cleaned cleaning (content_at s name p))
  left_is cleaning = by (is_known s name p) refl
    where
      by : (b : Bool) → is_known s name p ≡ b → (answer_after (first_some (fault_if (not b) UnknownTopicOrPartition ∷ [])) (cleaning_work s name p cleaning) s).1 ≡ with_content s name p (cleaned cleaning (content_at s name p))
      by true known = refl
      by false unknown = sym (with_unknown s name p (cleaned cleaning (content_at s name p)) unknown)

  -- what comes of the partition's content comes of the content that was put there; of an unknown partition no state depends on it
  there_now : (f : Content → Content) (c : Content) → with_content (with_content s name p c) name p (f (content_at (with_content s name p c) name p)) ≡ with_content s name p (f c)
  there_now f c = by (is_known s name p) refl
    where
      by : (b : Bool) → is_known s name p ≡ b → with_content (with_content s name p c) name p (f (content_at (with_content s name p c) name p)) ≡ with_content s name p (f c)
      by true known =
          ap (λ o. with_content (with_content s name p c) name p (f (unwrap_or o empty))) (with_same s name p c known) ∙ with_twice s name p c (f c)
      by false unknown =
          with_twice s name p c (f (content_at (with_content s name p c) name p))
          ∙ with_unknown s name p (f (content_at (with_content s name p c) name p)) unknown ∙ sym (with_unknown s name p (f c) unknown)

-- ---- parts

module _ (n : ℤ) (q : CleanValue) where
  abbrev here : State → Content
  here s = content_at s q.topic q.partition

  after_parts : (s : State) (from : ℤ) (ends : List ℤ) → state_after s (asked_in_parts n q from ends) ≡ with_content s q.topic q.partition (clean_in_parts q.upto q.tomb_before from ends (here s))
  after_parts s from [] = sym (with_own s q.topic q.partition)
  after_parts s from (to ∷ ends) =
      let part : CleaningPart = part_of q.upto q.tomb_before from to in
      let others : State → State = λ m. state_after m (asked_in_parts n q to ends) in
      ap others (left_is s q.topic q.partition (Part part))
      ∙ after_parts (with_content s q.topic q.partition (clean_part part (here s))) to ends
      ∙ there_now s q.topic q.partition (clean_in_parts q.upto q.tomb_before to ends) (clean_part part (here s))

pub parts_leave : (s : State) (n : ℤ) (q : CleanValue) (from : ℤ) (ends : List ℤ) → IsSound s → from ≤ℤ (content_at s q.topic q.partition).start → AreEnds q.upto from ends (content_at s q.topic q.partition)
    → state_after s (asked_in_parts n q from ends) ≡ (reply_to s n (clean_body q)).1
parts_leave s n q from ends sound low are_ends =
    after_parts n q s from ends
    ∙ ap (with_content s q.topic q.partition) (parts_content q.upto q.tomb_before from ends (content_at s q.topic q.partition) (content_valid s q.topic q.partition sound) low are_ends)
    ∙ sym (left_is s q.topic q.partition (Whole q.upto q.tomb_before))
