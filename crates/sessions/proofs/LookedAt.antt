-- What each does who waits for a partition that was counted, and that this is all.
use Rattle.std.proofs.Common.{◌≡◌, ℕ, arith, List, Option, Some, MatchOption, slice_get, sym, ap, subst, ◌∙◌}
use Rattle.std.specs.Cmp.{IsEquivalence}
use Rattle.std.specs.Map.{keys_of, values_of, lookup}
use Rattle.std.specs.Option.{option_map}
use Rattle.std.proofs.lemmas.Bool.Decides.{nat_tests}
use Rattle.std.proofs.lemmas.Option.{same_Some, slice_get-map}
use Rattle.indexmap.specs.IndexMap.{IndexMap, IsUnique, UpdatesBy, with_value_at}
use Rattle.indexmap.proofs.CallerLemmas.{updates-with_value_at}
use Rattle.broker_state.specs.State.{State}
use Rattle.sessions.specs.declared.waits.PartitionKey.{PartitionKey}
use Rattle.sessions.specs.declared.waiting.Noted.{Noted}
use Rattle.sessions.specs.Waiting.{StandState, WaitingState, asleep_at, is_same_key, place_of, share_in}
use Rattle.sessions.specs.Growing.{Counts, KeepsDues, Looks, LooksAt}

-- ---- over what a map holds

key_laws : IsEquivalence is_same_key
key_laws = record {
  refl = λ x. grind (arith, nat_tests);
  symm = λ x y. grind (arith, nat_tests);
  congr = λ x y z is. grind (arith, nat_tests, is);
}

module _ {S : Type 0} (m : IndexMap PartitionKey StandState S) (i : ℕ) (key : PartitionKey) (stand next : StandState) (unique : IsUnique is_same_key m) (at : slice_get m.entries i ≡ Some (key, stand)) where
  pub key_at : slice_get (keys_of m.entries) i ≡ Some key
  key_at = slice_get-map (λ (e : PartitionKey × StandState). e.0) m.entries i ∙ ap (option_map (λ (e : PartitionKey × StandState). e.0)) at

  updates : UpdatesBy is_same_key (is_same_key key) m (with_value_at m i next) (Some next)
  updates = updates-with_value_at m i next key_laws unique key stand at

  module _ (after : State) (noted : Noted) (old new : WaitingState) (was : lookup (is_same_key key) m.entries ≡ Some stand) (holds : m.entries ≡ old.stands) (left : new.stands ≡ (with_value_at m i next).entries) where
    pub looks_at : Counts after (place_of key) stand next → ((k : ℕ) → Looks after noted (place_of key) stand next (share_in stand k) (asleep_at old.waits k) (asleep_at new.waits k)) → KeepsDues old.waits new.waits → new.times ≡ old.times
        → LooksAt after noted key old new
    looks_at counts each dues times = record {
      stand = stand;
      next = next;
      was = ap (lookup (is_same_key key)) (sym holds) ∙ was;
      is = ap (lookup (is_same_key key)) left ∙ updates.1;
      others = λ k other. ap (lookup (is_same_key k)) left ∙ updates.2 k other ∙ ap (lookup (is_same_key k)) holds;
      counts = counts;
      each = each;
      dues = dues;
      times = times;
    }

    pub looks_match : Counts after (place_of key) stand next → ((k : ℕ) → Looks after noted (place_of key) stand next (share_in stand k) (asleep_at old.waits k) (asleep_at new.waits k)) → KeepsDues old.waits new.waits → new.times ≡ old.times
        → MatchOption (slice_get (keys_of old.stands) i) (new ≡ old) (λ key. LooksAt after noted key old new)
    looks_match counts each dues times =
        subst (λ (o : Option PartitionKey). MatchOption o (new ≡ old) (λ key. LooksAt after noted key old new)) (sym key_at ∙ ap (λ (es : List (PartitionKey × StandState)). slice_get (keys_of es) i) holds) (looks_at counts each dues times)

-- the value that is found at an index is the one to write
pub same_stand : (es : List (PartitionKey × StandState)) (i : ℕ) (key : PartitionKey) (value stand : StandState) → slice_get es i ≡ Some (key, value) → slice_get (values_of es) i ≡ Some stand → value ≡ stand
same_stand es i key value stand at there =
    same_Some value stand (sym (slice_get-map (λ (e : PartitionKey × StandState). e.1) es i ∙ ap (option_map (λ (e : PartitionKey × StandState). e.1)) at) ∙ there)
