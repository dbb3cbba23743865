-- No topic of a broker has so many partitions that one of them is no int32.
use Rattle.std.proofs.Common.{◌≡◌, ℕ, zero, suc, ◌^◌, ◌≤◌, false, pos, List, [], ◌∷◌, length, Option, Some, None, refl, sym, subst, arith}
use Rattle.std.specs.Prelude.{map, is_some, slice_get, bytes_eq}
use Rattle.std.specs.List.{AllByRecursion}
use Rattle.std.specs.Option.{option_and_then}
use Rattle.broker_state.specs.declared.limits.TheConstants.{MAX_PARTITIONS}
use Rattle.broker_state.specs.State.{Topic, State, topic_of, partition_of, is_known}
use Rattle.broker_state.specs.Sound.{shape_of, IsSound}
use Rattle.broker_state.proofs.Shapes.{IsSmallTopic, small_config}
use Rattle.broker_state.proofs.SoundStates.{found_has}

few_in_each : (ts : List Topic) → AllByRecursion IsSmallTopic (map shape_of ts) → AllByRecursion (λ (t : Topic). length t.partitions ≤ MAX_PARTITIONS) ts
few_in_each [] small = tt
few_in_each (t ∷ ts) small = (small.0.few, few_in_each ts small.1)

none_beyond : {X : Type 0} (xs : List X) (n : ℕ) → length xs ≤ n → is_some (slice_get xs n) ≡ false
none_beyond [] n beyond = refl
none_beyond (x ∷ xs) zero beyond = absurd (omega (arith, beyond))
none_beyond (x ∷ xs) (suc n) beyond = none_beyond xs n (omega (arith, beyond))

pub unknown_beyond : (s : State) (name : List ℕ) (n : ℕ) → IsSound s → 2 ^ 31 ≤ n → is_known s name (pos n) ≡ false
unknown_beyond s name n sound beyond = by (topic_of s name) refl
  where
    small : AllByRecursion (λ (t : Topic). length t.partitions ≤ MAX_PARTITIONS) s.topics
    small = few_in_each s.topics (subst (AllByRecursion IsSmallTopic) (sym sound.topics) (small_config s.config sound.config.valid).topics)

    by : (o : Option Topic) → topic_of s name ≡ o → is_some (option_and_then (partition_of (pos n)) o) ≡ false
    by None e = refl
    by (Some t) e =
        let few : length t.partitions ≤ MAX_PARTITIONS = found_has (λ (u : Topic). length u.partitions ≤ MAX_PARTITIONS) (λ (u : Topic). bytes_eq u.name name) s.topics t small e in
        none_beyond t.partitions n (omega (arith, few, beyond))
