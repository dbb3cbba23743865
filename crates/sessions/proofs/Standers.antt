-- Whoever stands at a partition waits for it, step by step.
use Rattle.std.proofs.Common.{◌≡◌, ◌≢◌, ℕ, ℤ, inl, inr, arith, Bool, true, false, cond, List, [], ◌∷◌, Option, Some, None, IfSome, Result, Ok, Err, is_some, sym, ap, subst, refl, ◌∙◌}
use Rattle.std.specs.Prelude.{◌||◌, nat_eq, All, OnOk}
use Rattle.std.specs.List.{list_any}
use Rattle.std.specs.Map.{lookup}
use Rattle.std.specs.Option.{option_and_then, option_map, option_map_or}
use Rattle.std.specs.declared.alloc.AllocError.{AllocError}
use Rattle.std.proofs.lemmas.Bool.{true≢false}
use Rattle.std.proofs.lemmas.Bool.Decides.{nat_tests}
use Rattle.std.proofs.lemmas.List.Elements.{All-head, All-tail}
use Rattle.std.proofs.lemmas.List.Folds.{list_any-append}
use Rattle.std.proofs.lemmas.Option.{none-some, same_Some}
use Rattle.sessions.specs.declared.waits.PartitionKey.{PartitionKey}
use Rattle.sessions.specs.declared.waits.Share.{Share}
use Rattle.sessions.specs.Waiting.{StandState, StandsAtNone, StandersWait, WaitState, WaitsState, WaitingState, is_same_key, kept, share_at, share_in, stand_at, wait_at, waits_for, with_entry, with_place}
use Rattle.sessions.specs.Joining.{Knows, KeepsStanders, Stays, as_it_was}

-- ---- keys and places

pub same_key : (x y : PartitionKey) → is_same_key x y ≡ true → x ≡ y
same_key x y is =
    let topics : x.topic ≡ y.topic = grind (arith, is, nat_tests) in
    let partitions : x.partition ≡ y.partition = grind (arith, is, nat_tests) in
    λ i. record { topic = topics i; partition = partitions i }

same_number : (j k : ℕ) → nat_eq j k ≡ true → j ≡ k
same_number j k is = grind (arith, is, nat_tests)

other_number : (j k : ℕ) → nat_eq j k ≡ false → j ≢ k
other_number j k is = grind (arith, is, nat_tests)

abbrev pub has_place : PartitionKey → Option WaitState → Bool
has_place key o = option_map_or (λ wait. list_any (is_same_key key) wait.places) o false

abbrev pub share_of : ℕ → Option StandState → Option Share
share_of k o = option_and_then (λ stand. share_in stand k) o

-- one of these partitions has what all have
among : (P : PartitionKey → Type 0) (key : PartitionKey) (keys : List PartitionKey) → All P keys → list_any (is_same_key key) keys ≡ true → P key
among P key [] all is = absurd (true≢false (sym is))
among P key (x ∷ xs) all is = by (is_same_key key x) refl is (among P key xs (All-tail P x xs all)) where
  by : (b : Bool) → is_same_key key x ≡ b → (b || list_any (is_same_key key) xs) ≡ true → (list_any (is_same_key key) xs ≡ true → P key) → P key
  by true same is rest = subst P (sym (same_key key x same)) (All-head P x xs all)
  by false other is rest = rest is

-- ---- where one leaves

pub standers_left : (number : ℕ) (old new : WaitingState) → ((key : PartitionKey) (k : ℕ) → share_at old key k ≡ None → share_at new key k ≡ None) → ((k : ℕ) → k ≢ number → wait_at new.waits k ≡ wait_at old.waits k)
    → ((key : PartitionKey) → has_place key (wait_at old.waits number) ≡ true → share_at new key number ≡ None) → StandersWait old → StandersWait new
standers_left number old new shares waits gone stand = record { none = λ key k away. by key k away (nat_eq k number) refl } where
  own : (key : PartitionKey) (b : Bool) → has_place key (wait_at old.waits number) ≡ b → share_at new key number ≡ None
  own key true is = gone key is
  own key false is = shares key number (stand.none key number is)

  by : (key : PartitionKey) (k : ℕ) → waits_for new.waits k key ≡ false → (b : Bool) → nat_eq k number ≡ b → share_at new key k ≡ None
  by key k away true same = subst (λ (n : ℕ). share_at new key n ≡ None) (sym (same_number k number same)) (own key (has_place key (wait_at old.waits number)) refl)
  by key k away false other = shares key k (stand.none key k (ap (has_place key) (sym (waits k (other_number k number other))) ∙ away))

-- it stands at none of its places
pub none_of : (number : ℕ) (new : WaitingState) (o : Option WaitState) → IfSome o (λ wait. StandsAtNone number wait.places new) → (key : PartitionKey) → has_place key o ≡ true → share_at new key number ≡ None
none_of number new None gone key is = absurd (true≢false (sym is))
none_of number new (Some wait) gone key is = among (λ x. share_at new x number ≡ None) key wait.places gone is

-- ---- one joins

pub standers_same : (k : ℕ) (w : WaitingState) → KeepsStanders k w w
standers_same k w = record { waits = λ some. some; standers = λ some stand. stand }

pub standers_then : (k : ℕ) (a b c : WaitingState) → KeepsStanders k a b → KeepsStanders k b c → KeepsStanders k a c
standers_then k a b c first second = record {
  waits = λ some. second.waits (first.waits some);
  standers = λ some stand. second.standers (first.waits some) (first.standers some stand);
}

-- it has each place that it had
module _ (k : ℕ) (inside old new : WaitingState) (is : inside ≡ old) (stands : new.stands ≡ inside.stands) (others : (j : ℕ) → j ≢ k → wait_at new.waits j ≡ wait_at inside.waits j) where
  changed : (f : WaitState → WaitState) → ((w : WaitState) (key : PartitionKey) → list_any (is_same_key key) (f w).places ≡ false → list_any (is_same_key key) w.places ≡ false)
      → wait_at new.waits k ≡ option_map f (wait_at inside.waits k) → KeepsStanders k old new
  changed f narrow this = subst (λ (w : WaitingState). KeepsStanders k w new) is (record {
    waits = some (wait_at inside.waits k) (wait_at new.waits k) this;
    standers = λ _ stand. record { none = λ key j away. ap (λ ss. share_of j (lookup (is_same_key key) ss)) stands ∙ stand.none key j (there key j away (nat_eq j k) refl) };
  }) where
    some : (x y : Option WaitState) → y ≡ option_map f x → is_some x ≡ true → is_some y ≡ true
    some None y same is = absurd (true≢false (sym is))
    some (Some w) y same is = ap is_some same

    own : (key : PartitionKey) (x y : Option WaitState) → y ≡ option_map f x → has_place key y ≡ false → has_place key x ≡ false
    own key None y same away = refl
    own key (Some w) y same away = narrow w key (sym (ap (has_place key) same) ∙ away)

    there : (key : PartitionKey) (j : ℕ) → waits_for new.waits j key ≡ false → (b : Bool) → nat_eq j k ≡ b → waits_for inside.waits j key ≡ false
    there key j away true same =
        let this_one = same_number j k same in
        subst (λ (n : ℕ). waits_for inside.waits n key ≡ false) (sym this_one)
        (own key (wait_at inside.waits k) (wait_at new.waits k) this (subst (λ (n : ℕ). waits_for new.waits n key ≡ false) this_one away))
    there key j away false other = ap (has_place key) (sym (others j (other_number j k other))) ∙ away

  pub standers_placed : (place : PartitionKey) → wait_at new.waits k ≡ option_map (with_place place) (wait_at inside.waits k) → KeepsStanders k old new
  standers_placed place = changed (with_place place) (λ w key away. fewer (list_any (is_same_key key) w.places) _ (sym (list_any-append (is_same_key key) w.places (place ∷ [])) ∙ away)) where
    fewer : (a b : Bool) → (a || b) ≡ false → a ≡ false
    fewer true b is = is
    fewer false b is = refl

  pub standers_taken : (bytes entry : ℕ) (room : Option ℕ) → wait_at new.waits k ≡ option_map (with_entry bytes room entry) (wait_at inside.waits k) → KeepsStanders k old new
  standers_taken bytes entry None = changed (with_entry bytes None entry) (λ w key away. away)
  standers_taken bytes entry (Some room) = changed (with_entry bytes (Some room) entry) (λ w key away. away)

  pub standers_stay : wait_at new.waits k ≡ wait_at inside.waits k → KeepsStanders k old new
  standers_stay this = changed as_it_was (λ w key away. away) (this ∙ as_was (wait_at inside.waits k)) where
    as_was : (o : Option WaitState) → o ≡ option_map as_it_was o
    as_was None = refl
    as_was (Some w) = refl

  -- it comes
  pub standers_come : wait_at old.waits k ≡ None → StandersWait old → StandersWait new
  standers_come none stand = record {
    none = λ key j away. ap (λ ss. share_of j (lookup (is_same_key key) ss)) stands ∙ ap (λ (w : WaitingState). share_at w key j) is ∙ stand.none key j (there key j away (nat_eq j k) refl);
  } where
    there : (key : PartitionKey) (j : ℕ) → waits_for new.waits j key ≡ false → (b : Bool) → nat_eq j k ≡ b → waits_for old.waits j key ≡ false
    there key j away true same = subst (λ (n : ℕ). waits_for old.waits n key ≡ false) (sym (same_number j k same)) (ap (has_place key) none)
    there key j away false other = ap (λ (w : WaitingState). waits_for w.waits j key) (sym is) ∙ ap (has_place key) (sym (others j (other_number j k other))) ∙ away

-- a partition is among those that are waited for
pub standers_known : (k : ℕ) (key : PartitionKey) (at : ℤ) (old new : WaitingState) → Knows key at old new → KeepsStanders k old new
standers_known k key at old new knows = record {
  waits = λ some. subst (λ (w : WaitsState). is_some (wait_at w k) ≡ true) (sym knows.waits) some;
  standers = λ _ stand. record { none = λ other j away. by other j (stand.none other j (ap (λ (w : WaitsState). waits_for w j other) (sym knows.waits) ∙ away)) (stand_at new other) refl };
} where
  by : (other : PartitionKey) (j : ℕ) → share_at old other j ≡ None → (o : Option StandState) → stand_at new other ≡ o → share_at new other j ≡ None
  by other j none None is = ap (share_of j) is
  by other j none (Some stand) is = elim (knows.came other stand is) [
    | inl was ↦ ap (share_of j) is ∙ ap (share_of j) (sym was) ∙ none
    | inr fresh ↦ ap (share_of j) is ∙ ap (λ (x : StandState). share_in x j) fresh.1
  ]

-- it has its place once one is added
pub has_placed : (place : PartitionKey) (x y : Option WaitState) → y ≡ option_map (with_place place) x → is_some x ≡ true → has_place place y ≡ true
has_placed place None y same is = absurd (true≢false (sym is))
has_placed place (Some w) y same is =
    ap (has_place place) same ∙ list_any-append (is_same_key place) w.places (place ∷ []) ∙ behind (list_any (is_same_key place) w.places) where
      own : is_same_key place place ≡ true
      own = grind (arith, nat_tests)

      behind : (a : Bool) → (a || (is_same_key place place || false)) ≡ true
      behind true = refl
      behind false = ap (λ (b : Bool). b || false) own

-- whoever has a share has a place
pub has_stood : (k : ℕ) (place : PartitionKey) (w : WaitingState) → is_some (share_at w place k) ≡ true → StandersWait w → waits_for w.waits k place ≡ true
has_stood k place w is stand = by (waits_for w.waits k place) refl where
  by : (b : Bool) → waits_for w.waits k place ≡ b → waits_for w.waits k place ≡ true
  by true has = has
  by false away = absurd (true≢false (sym is ∙ ap is_some (stand.none place k away)))

-- it is put at one of its places
pub standers_put : (k : ℕ) (key : PartitionKey) (inside old new : WaitingState) (before after : StandState) → inside ≡ old → new.waits ≡ inside.waits → stand_at inside key ≡ Some before
    → ((other : PartitionKey) → stand_at new other ≡ cond (is_same_key key other) (Some after) (stand_at inside other)) → Stays k before after → waits_for old.waits k key ≡ true → StandersWait old → StandersWait new
standers_put k key inside old new before after is waits here update stays placed stand = record { none = λ other j away. by other j away (is_same_key key other) refl (nat_eq j k) refl } where
  none : (other : PartitionKey) (j : ℕ) → waits_for new.waits j other ≡ false → share_at inside other j ≡ None
  none other j away = ap (λ (w : WaitingState). share_at w other j) is ∙ stand.none other j (ap (λ (w : WaitingState). waits_for w.waits j other) (sym is) ∙ ap (λ (w : WaitsState). waits_for w j other) (sym waits) ∙ away)

  by : (other : PartitionKey) (j : ℕ) → waits_for new.waits j other ≡ false → (b : Bool) → is_same_key key other ≡ b → (d : Bool) → nat_eq j k ≡ d → share_at new other j ≡ None
  by other j away true same true mine =
      let at : key ≡ other = same_key key other same in
      let this : j ≡ k = same_number j k mine in
      absurd (true≢false (sym placed ∙ ap (λ (w : WaitingState). waits_for w.waits k key) (sym is) ∙ ap (λ (w : WaitsState). waits_for w k key) (sym waits) ∙ ap (λ (x : PartitionKey). waits_for new.waits k x) at
      ∙ ap (λ (n : ℕ). waits_for new.waits n other) (sym this) ∙ away))
  by other j away true same false apart =
      ap (share_of j) (update other ∙ ap (λ (b : Bool). cond b (Some after) (stand_at inside other)) same) ∙ stays.others j (other_number j k apart) ∙ ap (share_of j) (sym here)
      ∙ ap (λ (x : PartitionKey). share_at inside x j) (same_key key other same) ∙ none other j away
  by other j away false differs d mine = ap (share_of j) (update other ∙ ap (λ (b : Bool). cond b (Some after) (stand_at inside other)) differs) ∙ none other j away

-- nothing changes that they know
pub standers_kept : (inside old new : WaitingState) → inside ≡ old → ((k : ℕ) → wait_at new.waits k ≡ wait_at inside.waits k) → new.stands ≡ inside.stands → StandersWait old → StandersWait new
standers_kept inside old new is waits stands stand = record {
  none = λ key k away. ap (λ ss. share_of k (lookup (is_same_key key) ss)) stands ∙ ap (λ (w : WaitingState). share_at w key k) is
      ∙ stand.none key k (ap (λ (w : WaitingState). waits_for w.waits k key) (sym is) ∙ ap (has_place key) (sym (waits k)) ∙ away);
}

-- it has the place that was added, or was there
pub placed_known : (r : Result (Unit {0}) AllocError) (k : ℕ) (place : PartitionKey) (at : ℤ) (inside old mid new : WaitingState) → inside ≡ old → wait_at mid.waits k ≡ option_map (with_place place) (wait_at inside.waits k) → Knows place at mid new
    → OnOk r (is_some (wait_at old.waits k) ≡ true → StandersWait old → waits_for new.waits k place ≡ true)
placed_known (Err e) k place at inside old mid new is adds knows = tt
placed_known (Ok x) k place at inside old mid new is adds knows = λ some stand.
    ap (λ (w : WaitsState). waits_for w k place) knows.waits ∙ has_placed place (wait_at inside.waits k) (wait_at mid.waits k) adds (ap (λ (w : WaitingState). is_some (wait_at w.waits k)) is ∙ some)

-- one of its entries was counted
pub standers_counted : (k : ℕ) (key : PartitionKey) (old taken mid new : WaitingState) → KeepsStanders k old taken → KeepsStanders k taken mid → (is_some (wait_at taken.waits k) ≡ true → StandersWait taken → waits_for mid.waits k key ≡ true)
    → new.waits ≡ mid.waits → (waits_for mid.waits k key ≡ true → StandersWait mid → StandersWait new) → KeepsStanders k old new
standers_counted k key old taken mid new first second placed waits put = record {
  waits = λ some. subst (λ (w : WaitsState). is_some (wait_at w k) ≡ true) (sym waits) (second.waits (first.waits some));
  standers = λ some stand.
      let there = first.waits some in
      let before = first.standers some stand in
      put (placed there before) (second.standers there before);
}

-- whoever waits on has its partitions
pub places_kept : (key : PartitionKey) (x y : Option WaitState) → option_map kept x ≡ option_map kept y → has_place key x ≡ has_place key y
places_kept key None None same = refl
places_kept key None (Some y) same = absurd (none-some (kept y) same)
places_kept key (Some x) None same = absurd (none-some (kept x) (sym same))
places_kept key (Some x) (Some y) same = ap (λ (d : (ℕ × ℕ) × Bool × List PartitionKey). list_any (is_same_key key) d.2) (same_Some (kept x) (kept y) same)
