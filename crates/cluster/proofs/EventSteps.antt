-- What each event makes of the world of the copies.
use Rattle.std.proofs.Common.{◌≡◌, ℕ, Option, add-one, zero, suc, ◌+◌, ◌<◌, ◌≤◌, ℤ, pos, ◌+ℤ◌, Bool, ◌⊎◌, inl, inr, Result, Ok, Err, List, [], ◌∷◌, length, get_or, set, Some, None, refl, sym, ap, subst, ◌∙◌, cond, arith, true, false, true≢false}
use Rattle.std.specs.Prelude.{slice_get, IsErrAnd, IfSome, MatchOption, ◌↔◌}
use Rattle.std.specs.Option.{option_map}
use Rattle.std.specs.Borrow.{Bor}
use Rattle.batch_codec.specs.Values.{BatchValue}
use Rattle.batch_codec.specs.Offsets.{first_offset, IsWhole, HasKeys}
use Rattle.content.specs.declared.delivery.Delivered.{Delivered}
use Rattle.content.specs.declared.delivery.Delivered.TheVariants.{Repeat}
use Rattle.content.specs.ByOffset.{look_up, Rises}
use Rattle.content.specs.Content.{Content, IsContent, IsLogBatch, IsInRange, HasSeenNone, has_seen_all, with_batch, add}
use Rattle.content.specs.Logs.{IsPlainLog}
use Rattle.content.specs.Copies.{IsCopy}
use Rattle.content_laws.proofs.ContentSteps.{content_with_batch, content_add}
use Rattle.content_laws.proofs.CopyAdd.{copy_with_batch}
use Rattle.content_laws.proofs.PlainLogs.{log_batch, plain-rises}
use Rattle.content_laws.proofs.ByOffset.{look_up-low}
use Rattle.std.proofs.lemmas.Int.{ints}
use Rattle.content_laws.proofs.CopyFacts.{all_or_none}
use Rattle.cluster.specs.declared.event.Outcome.{Outcome}
use Rattle.cluster.specs.declared.event.Outcome.TheVariants as outcome
use Rattle.cluster.specs.declared.event.EventError.{EventError}
use Rattle.cluster.specs.declared.event.EventError.TheVariants.{NoCopy, LeaderCopy, NoBatch, NoImage, BadBatch, Extra, Append, Trim, OutOfMemory}
use Rattle.cluster.specs.Worlds.{World, copy_at, with_copy}
use Rattle.cluster.specs.Events.{IsFollower, RefusesFollower, RefusesDelivery, RefusesMerge, Delivers, Merges}
use Rattle.cluster.specs.Parts.{DeliversTo}
use Rattle.cluster.specs.Headline.{IsCopyOf, IsConsistent}
use Rattle.cluster.proofs.WorldSteps.{copy_is, after_change}

-- ---- a delivery

copy_of_add : (c : Content) (b : BatchValue) (log : List BatchValue) → IsContent c → IsPlainLog log → IsCopy c log → look_up first_offset (first_offset b) log ≡ Some b → IsCopy (add c b) log
copy_of_add c b log content plain copy there = by (has_seen_all c b) refl (all_or_none c log content plain copy b there)
  where
    by : (t : Bool) → has_seen_all c b ≡ t → (has_seen_all c b ≡ true) ⊎ HasSeenNone c b → IsCopy (cond t c (with_batch c b)) log
    by true e which = copy
    by false e (inl all) = absurd (true≢false (sym all ∙ e))
    by false e (inr none) = copy_with_batch c b log content plain copy there none (content_with_batch c b content (log_batch 0 log b plain there) none)

-- a copy of a log refuses a batch of it only for lack of memory
module _ (c : Content) (b : BatchValue) (log : List BatchValue) (plain : IsPlainLog log) (copy : IsCopyOf log c) (there : look_up first_offset (first_offset b) log ≡ Some b) where
  pub is_log_batch : IsLogBatch b
  is_log_batch = log_batch 0 log b plain there

  pub never_overlaps : has_seen_all c b ≡ false → (¬ HasSeenNone c b) → ⊥
  never_overlaps some any = by (all_or_none c log copy.0 plain copy.1 b there)
    where
      by : (has_seen_all c b ≡ true) ⊎ HasSeenNone c b → ⊥
      by (inl all) = true≢false (sym all ∙ some)
      by (inr none) = any none

  pub never_partial : (¬ IsWhole b) → ⊥
  never_partial not = not is_log_batch.whole

  pub never_without_key : IsWhole b × (¬ HasKeys b) → ⊥
  never_without_key not = not.1 is_log_batch.keys

  pub never_out_of_range : IsWhole b × HasKeys b × (¬ IsInRange b) → ⊥
  never_out_of_range not = not.2 is_log_batch.in_range

  pub added_copy : IsCopyOf log (add c b)
  added_copy = (content_add c b copy.0 is_log_batch (all_or_none c log copy.0 plain copy.1 b there), copy_of_add c b log copy.0 plain copy.1 there)

-- a batch of a log is found by its base offset
on_log_from : (low : ℤ) (log : List BatchValue) (i : ℕ) (b : BatchValue) → Rises first_offset low log → slice_get log i ≡ Some b → look_up first_offset (first_offset b) log ≡ Some b
on_log_from low [] i b rises there = absurd (grind (arith, there))
on_log_from low (x ∷ xs) zero b rises there = let same : x ≡ b = cc in subst (λ y. look_up first_offset (first_offset y) (x ∷ xs) ≡ Some y) same (grind (arith, ints))
on_log_from low (x ∷ xs) (suc i) b rises there =
    let later = on_log_from (first_offset x +ℤ pos 1) xs i b rises.1 there in
    grind (arith, ints, later, look_up-low first_offset (first_offset x +ℤ pos 1) (first_offset b) xs rises.1)

pub on_log : (log : List BatchValue) (i : ℕ) (b : BatchValue) → IsPlainLog log → slice_get log i ≡ Some b → look_up first_offset (first_offset b) log ≡ Some b
on_log log i b plain there = on_log_from (pos 0) log i b (plain-rises 0 log plain) there

-- an index in a list
-- a follower, by its number
pub follower_at : (v w : World) (copy i : ℕ) (found : Option Content) → v ≡ w → copy ≡ i + 1 → found ≡ slice_get v.followers i → found ≡ copy_at w copy
follower_at v w copy i found view number is =
    is ∙ ap (λ (x : World). slice_get x.followers i) view ∙ ap (copy_at w) (sym (number ∙ add-one i))

pub at_index : {X : Type 0} (xs : List X) (i : ℕ) (x : X) → i < length xs → x ≡ get_or xs i x → slice_get xs i ≡ Some x
at_index [] i x lt is = absurd (omega (arith, lt))
at_index (y ∷ ys) zero x lt is = ap (λ z. Some z) (sym is)
at_index (y ∷ ys) (suc i) x lt is = at_index ys i x (omega (arith, lt)) is

-- what a slice answers at an index is what its list has there
past_end : {X : Type 0} (xs : List X) (i : ℕ) → length xs ≤ i → None ≡ slice_get xs i
past_end [] i le = refl
past_end (y ∷ ys) zero le = absurd (omega (arith, le))
past_end (y ∷ ys) (suc i) le = past_end ys i (omega (arith, le))

pub found_at : {X : Type 0} (Q : Bor X → Type 0) (found : Option (Bor X)) (xs : List X) (i : ℕ) → MatchOption found (length xs ≤ i) (λ x. (i < length xs) × Q x)
    → IfSome found (λ x. x.now ≡ get_or xs i x.now) → option_map (λ x. x.now) found ≡ slice_get xs i
found_at Q None xs i past is = past_end xs i past
found_at Q (Some x) xs i there is = sym (at_index xs i x.now there.0 is)

pub set_same : {X : Type 0} (xs : List X) (i : ℕ) (x : X) → slice_get xs i ≡ Some x → set xs i x ≡ xs
set_same [] i x there = refl
set_same (y ∷ ys) zero x there = ap (λ z. z ∷ ys) (cc)
set_same (y ∷ ys) (suc i) x there = ap (λ zs. y ∷ zs) (set_same ys i x there)

module _ (w : World) (is : IsConsistent w) (copy i batch : ℕ) (c : Content) (number : copy ≡ i + 1) (there : slice_get w.followers i ≡ Some c) where
  next : copy ≡ suc i
  next = omega (arith, number)

  pub is_follower : IsFollower w copy c
  is_follower = (omega (arith, number), ap (λ n. copy_at w n) next ∙ there)

  pub follower_copy : IsCopyOf w.log c
  follower_copy = copy_is w is copy c is_follower.1

  abbrev pub changed : Content → World
  changed after = record w { followers = set w.followers i after }

  pub changed_is : (after : Content) → changed after ≡ with_copy copy after w
  changed_is after = sym (ap (λ n. with_copy n after w) next)

  pub unchanged_is : (after : Content) → after ≡ c → changed after ≡ w
  unchanged_is after same = λ k. record w { followers = (ap (λ x. set w.followers i x) same ∙ set_same w.followers i c there) k }

  -- what the delivery answered
  abbrev WasDelivered : BatchValue → Content → Result Outcome EventError → Type 0
  WasDelivered b after r =
      ((d : Delivered) × (r ≡ Ok (outcome.Delivered d)) × (after ≡ add c b) × ((d ≡ Repeat) ↔ (has_seen_all c b ≡ true)))
      ⊎ ((r ≡ Err OutOfMemory) × HasSeenNone c b × (after ≡ c))

  was_delivered : (b : BatchValue) (after : Content) (r : Result Outcome EventError) → DeliversTo c b after r → WasDelivered b after r
  was_delivered b after (Ok (outcome.Delivered d)) does = inl (d, refl, does.0, does.1)
  was_delivered b after (Err OutOfMemory) does = inr (refl, does.0, does.1)
  was_delivered b after (Ok (outcome.Based x y)) does = absurd does
  was_delivered b after (Ok (outcome.Cleaned x)) does = absurd does
  was_delivered b after (Ok (outcome.Sent x)) does = absurd does
  was_delivered b after (Ok outcome.Merged) does = absurd does
  was_delivered b after (Ok outcome.Trimmed) does = absurd does
  was_delivered b after (Err NoCopy) does = absurd does
  was_delivered b after (Err LeaderCopy) does = absurd does
  was_delivered b after (Err NoBatch) does = absurd does
  was_delivered b after (Err NoImage) does = absurd does
  was_delivered b after (Err (BadBatch x)) does = absurd does
  was_delivered b after (Err Extra) does = absurd does
  was_delivered b after (Err (Append x)) does = absurd does
  was_delivered b after (Err (Trim x)) does = absurd does

  pub delivered_consistent : (b : BatchValue) (after : Content) (r : Result Outcome EventError) → slice_get w.log batch ≡ Some b → DeliversTo c b after r → IsConsistent (changed after)
  delivered_consistent b after r at does = by (was_delivered b after r does)
    where
      by : WasDelivered b after r → IsConsistent (changed after)
      by (inl is_ok) = subst IsConsistent (sym (changed_is after)) (after_change w is copy after is_follower.0 (subst (IsCopyOf w.log) (sym is_ok.2) (added_copy c b w.log is.plain follower_copy (on_log w.log batch b is.plain at))))
      by (inr is_err) = subst IsConsistent (sym (unchanged_is after is_err.2)) is

  pub delivered_steps : (b : BatchValue) (after : Content) (r : Result Outcome EventError) → slice_get w.log batch ≡ Some b → DeliversTo c b after r → Delivers w copy batch (changed after) r
  delivered_steps b after r at does = by (was_delivered b after r does)
    where
      by : WasDelivered b after r → Delivers w copy batch (changed after) r
      by (inl is_ok) = subst (Delivers w copy batch (changed after)) (sym is_ok.1) (c, b, is_follower, at, changed_is after ∙ ap (λ x. with_copy copy x w) is_ok.2, is_ok.3)
      by (inr is_err) = subst (Delivers w copy batch (changed after)) (sym is_err.0) ((c, b, is_follower, at, is_err.1), unchanged_is after is_err.2)

-- the same, as code finds the copy and the batch
pub after_delivery : (W w : World) (copy i batch : ℕ) (c after : Content) (b : BatchValue) (archive : List BatchValue) (r : Result Outcome EventError) → W ≡ w → IsConsistent W
    → copy ≡ i + 1 → i < length w.followers → c ≡ get_or W.followers i c → archive ≡ W.log → Some b ≡ slice_get archive batch → DeliversTo c b after r
    → IsConsistent (record W { followers = set W.followers i after }) × Delivers w copy batch (record W { followers = set W.followers i after }) r
after_delivery W w copy i batch c after b archive r view is number lt there log at does =
    let held : slice_get W.followers i ≡ Some c = at_index W.followers i c (omega (arith, lt, ap (λ (x : World). length x.followers) view)) there in
    let on : slice_get W.log batch ≡ Some b = ap (λ (xs : List BatchValue). slice_get xs batch) (sym log) ∙ sym at in (
      delivered_consistent W is copy i batch c number held b after r on does,
      subst (λ (x : World). Delivers x copy batch (record W { followers = set W.followers i after }) r) view (delivered_steps W is copy i batch c number held b after r on does),
    )

pub a_follower : (w : World) (copy i : ℕ) → copy ≡ i + 1 → i < length w.followers → (c : Content) × IsFollower w copy c
a_follower w copy i number lt =
    let next : copy ≡ suc i = omega (arith, number) in
    (get_or w.followers i w.leader, (omega (arith, number), ap (λ n. copy_at w n) next ∙ there w.followers i w.leader lt))
  where
    there : (xs : List Content) (i : ℕ) (d : Content) → i < length xs → slice_get xs i ≡ Some (get_or xs i d)
    there [] i d lt = absurd (omega (arith, lt))
    there (x ∷ xs) zero d lt = refl
    there (x ∷ xs) (suc i) d lt = there xs i d (omega (arith, lt))

pub no_batch : (W w : World) (copy i batch : ℕ) (archive : List BatchValue) → W ≡ w → copy ≡ i + 1 → i < length w.followers → archive ≡ W.log → None ≡ slice_get archive batch
    → (c : Content) × IsFollower w copy c × (slice_get w.log batch ≡ None)
no_batch W w copy i batch archive view number lt log at =
    let follows = a_follower w copy i number lt in
    (follows.0, follows.1, ap (λ (x : World). slice_get x.log batch) (sym view) ∙ ap (λ (xs : List BatchValue). slice_get xs batch) (sym log) ∙ sym at)

-- ---- a number that is no follower's

refuses_delivery : (w : World) (copy batch : ℕ) (e : EventError) → RefusesFollower w copy e → RefusesDelivery w copy batch e
refuses_delivery w copy batch NoCopy refuses = refuses
refuses_delivery w copy batch LeaderCopy refuses = refuses
refuses_delivery w copy batch NoBatch refuses = absurd refuses
refuses_delivery w copy batch NoImage refuses = absurd refuses
refuses_delivery w copy batch (BadBatch x) refuses = absurd refuses
refuses_delivery w copy batch Extra refuses = absurd refuses
refuses_delivery w copy batch (Append x) refuses = absurd refuses
refuses_delivery w copy batch (Trim x) refuses = absurd refuses
refuses_delivery w copy batch OutOfMemory refuses = absurd refuses

refuses_merge : (w : World) (copy image : ℕ) (e : EventError) → RefusesFollower w copy e → RefusesMerge w copy image e
refuses_merge w copy image NoCopy refuses = refuses
refuses_merge w copy image LeaderCopy refuses = refuses
refuses_merge w copy image NoBatch refuses = absurd refuses
refuses_merge w copy image NoImage refuses = absurd refuses
refuses_merge w copy image (BadBatch x) refuses = absurd refuses
refuses_merge w copy image Extra refuses = absurd refuses
refuses_merge w copy image (Append x) refuses = absurd refuses
refuses_merge w copy image (Trim x) refuses = absurd refuses
refuses_merge w copy image OutOfMemory refuses = absurd refuses

pub no_delivery : (w : World) (copy batch : ℕ) (r : Result Outcome EventError) (e : EventError) → IsErrAnd r (λ x. x ≡ e) → RefusesFollower w copy e → Delivers w copy batch w r
no_delivery w copy batch (Ok x) e is refuses = absurd is
no_delivery w copy batch (Err x) e is refuses = (refuses_delivery w copy batch x (subst (RefusesFollower w copy) (sym is) refuses), refl)

pub no_merge : (w : World) (copy image : ℕ) (r : Result Outcome EventError) (e : EventError) → IsErrAnd r (λ x. x ≡ e) → RefusesFollower w copy e → Merges w copy image w r
no_merge w copy image (Ok x) e is refuses = absurd is
no_merge w copy image (Err x) e is refuses = (refuses_merge w copy image x (subst (RefusesFollower w copy) (sym is) refuses), refl)
