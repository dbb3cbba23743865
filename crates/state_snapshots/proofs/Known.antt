-- Which partitions a broker has stays the same, whatever they hold.
use Rattle.std.proofs.Common.{◌≡◌, ℕ, zero, suc, Bool, true, false, cond, ℤ, pos, negsuc, List, [], ◌∷◌, set, Some, refl, sym, ap, ◌∙◌}
use Rattle.std.specs.Prelude.{is_some, slice_get, bytes_eq}
use Rattle.std.specs.List.{find}
use Rattle.std.specs.Option.{option_and_then}
use Rattle.content.specs.Content.{Content}
use Rattle.broker_state.specs.State.{Topic, State, partition_of, is_known, with_partition, with_partition_of, with_content}
use Rattle.broker_state.specs.Restoring.{CanRestore}
use Rattle.state_snapshots.specs.Restoring.{Kept, with_kept}

there_in_both : (cs : List Content) (k n : ℕ) (c : Content) → is_some (slice_get (set cs k c) n) ≡ is_some (slice_get cs n)
there_in_both [] k n c = refl
there_in_both (x ∷ cs) zero zero c = refl
there_in_both (x ∷ cs) zero (suc n) c = refl
there_in_both (x ∷ cs) (suc k) zero c = refl
there_in_both (x ∷ cs) (suc k) (suc n) c = there_in_both cs k n c

in_topic : (p q : ℤ) (c : Content) (t : Topic) → is_some (partition_of q (with_partition p c t)) ≡ is_some (partition_of q t)
in_topic (pos k) (pos n) c t = there_in_both t.partitions k n c
in_topic (pos k) (negsuc n) c t = refl
in_topic (negsuc k) q c t = refl

same_name : (p : ℤ) (c : Content) (t : Topic) → (with_partition p c t).name ≡ t.name
same_name (pos k) c t = refl
same_name (negsuc k) c t = refl

module _ (topic : List ℕ) (p : ℤ) (c : Content) (name : List ℕ) (q : ℤ) where
  has : List Topic → Bool
  has ts = is_some (option_and_then (partition_of q) (find (λ t. bytes_eq t.name name) ts))

  first : (b : Bool) (t u : Topic) (ts us : List Topic) → is_some (partition_of q t) ≡ is_some (partition_of q u) → has ts ≡ has us
      → is_some (option_and_then (partition_of q) (cond b (Some t) (find (λ x. bytes_eq x.name name) ts))) ≡ is_some (option_and_then (partition_of q) (cond b (Some u) (find (λ x. bytes_eq x.name name) us)))
  unfolding has
  first true t u ts us here others = here
  first false t u ts us here others = others

  in_topics : (ts : List Topic) → has (with_partition_of topic p c ts) ≡ has ts
  unfolding has
  in_topics [] = refl
  in_topics (t ∷ ts) = by (bytes_eq t.name topic) (in_topics ts)
    where
      by : (b : Bool) → has (with_partition_of topic p c ts) ≡ has ts → has (cond b (with_partition p c t ∷ ts) (t ∷ with_partition_of topic p c ts)) ≡ has (t ∷ ts)
      by true others =
          ap (λ (n : List ℕ). is_some (option_and_then (partition_of q) (cond (bytes_eq n name) (Some (with_partition p c t)) (find (λ x. bytes_eq x.name name) ts)))) (same_name p c t)
          ∙ first (bytes_eq t.name name) (with_partition p c t) t ts ts (in_topic p q c t) refl
      by false others = first (bytes_eq t.name name) t t (with_partition_of topic p c ts) ts refl others

  pub known_with : (s : State) → is_known (with_content s topic p c) name q ≡ is_known s name q
  unfolding has
  known_with s = in_topics s.topics

-- what can be put in place after others can be put there before them
pub could_restore : (ps : List Kept) (s : State) (name : List ℕ) (q : ℤ) (c : Content) → CanRestore (with_kept s ps) name q c → CanRestore s name q c
could_restore [] s name q c can = can
could_restore (p ∷ ps) s name q c can =
    let later = could_restore ps (with_content s p.topic p.partition p.content) name q c can in
    record { known = sym (known_with p.topic p.partition p.content name q s) ∙ later.known; gapless = later.gapless }
