-- A new broker is one of empty logs, and a new follower one of any logs.
use Rattle.std.proofs.Common.{◌≡◌, ℕ, zero, suc, ℤ, pos, negsuc, Bool, true, false, cond, List, [], ◌∷◌, Some, refl, sym, subst}
use Rattle.std.specs.Prelude.{map, replicate, slice_get, bytes_eq}
use Rattle.std.specs.List.{find}
use Rattle.std.specs.Option.{unwrap_or, option_and_then}
use Rattle.content.specs.Content.{Content, empty}
use Rattle.content.specs.Logs.{IsPlainLog}
use Rattle.broker_state.specs.declared.config.Role.{Role}
use Rattle.broker_state.specs.declared.config.Role.TheVariants.{Follower}
use Rattle.broker_state.specs.State.{TopicConfig, ConfigValue, all_topics, new_topic, new_state, partition_of, content_at}
use Rattle.cleaning_laws.specs.Logs.{Logs, no_logs, IsLegalFromSome, IsPartitionOf, IsStateOf}
use Rattle.cleaning_laws.specs.Alike.{AreAlike}
use Rattle.cleaning_laws.proofs.EmptyCopies.{follower_empty, both_empty}

-- ---- each partition is empty

get_empty : (n m : ℕ) → unwrap_or (slice_get (replicate n empty) m) empty ≡ empty
get_empty zero m = refl
get_empty (suc n) zero = refl
get_empty (suc n) (suc m) = get_empty n m

topic_empty : (p : ℤ) (t : TopicConfig) → unwrap_or (partition_of p (new_topic t)) empty ≡ empty
topic_empty (pos m) t = get_empty t.partitions m
topic_empty (negsuc m) t = refl

topics_empty : (ts : List TopicConfig) (name : List ℕ) (p : ℤ) → unwrap_or (option_and_then (partition_of p) (find (λ t. bytes_eq t.name name) (map new_topic ts))) empty ≡ empty
topics_empty [] name p = refl
topics_empty (t ∷ ts) name p = by (bytes_eq t.name name) (topics_empty ts name p)
  where
    by : (b : Bool) → unwrap_or (option_and_then (partition_of p) (find (λ t. bytes_eq t.name name) (map new_topic ts))) empty ≡ empty
        → unwrap_or (option_and_then (partition_of p) (cond b (Some (new_topic t)) (find (λ t. bytes_eq t.name name) (map new_topic ts)))) empty ≡ empty
    by true rest = topic_empty p t
    by false rest = rest

new_is_empty : (g : ConfigValue) (name : List ℕ) (p : ℤ) → content_at (new_state g) name p ≡ empty
new_is_empty g name p = topics_empty (all_topics g) name p

-- ---- so it is one of the logs

new_state_of : (g : ConfigValue) (logs : Logs) → ((name : List ℕ) (p : ℤ) → IsPartitionOf g.role empty (logs name p)) → IsStateOf logs (new_state g)
new_state_of g logs each name p known = subst (λ (c : Content). IsPartitionOf g.role c (logs name p)) (sym (new_is_empty g name p)) (each name p)

alike_itself : (g : ConfigValue) (logs : Logs) → IsStateOf logs (new_state g) → AreAlike logs (new_state g) (new_state g)
alike_itself g logs is = record { one = is; other = is; config = refl; seen = refl; next_producer = refl }

pub new_alike : (g : ConfigValue) → AreAlike no_logs (new_state g) (new_state g)
new_alike g = alike_itself g no_logs (new_state_of g no_logs (λ name p. both_empty g.role))

pub new_follower_alike : (g : ConfigValue) (logs : Logs) → g.role ≡ Follower → ((name : List ℕ) (p : ℤ) → IsPlainLog (logs name p) × IsLegalFromSome (logs name p))
    → AreAlike logs (new_state g) (new_state g)
new_follower_alike g logs follows each = alike_itself g logs (new_state_of g logs (λ name p.
    let log = each name p in
    subst (λ (role : Role). IsPartitionOf role empty (logs name p)) (sym follows) (follower_empty (logs name p) log.0 log.1)))
