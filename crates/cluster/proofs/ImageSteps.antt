-- What sending and merging an image make of the world.
use Rattle.std.proofs.Common.{◌≡◌, ℕ, zero, suc, ◌+◌, ◌<◌, ◌≤◌, inl, inr, ◌⊎◌, Result, Ok, Err, List, [], ◌∷◌, ◌++◌, length, get_or, set, Some, None, refl, sym, ap, subst, ◌∙◌, arith}
use Rattle.std.specs.Prelude.{slice_get, replicate}
use Rattle.std.specs.List.{AllByRecursion}
use Rattle.std.proofs.lemmas.Int.{ints}
use Rattle.batch_codec.specs.Values.{BatchValue}
use Rattle.content.specs.Content.{Content, empty, IsContent}
use Rattle.content.specs.Joins.{join, Agree}
use Rattle.content.specs.Logs.{IsPlainLog}
use Rattle.content.specs.Copies.{IsCopy}
use Rattle.copy_images.specs.Images.{image_of, IsImage}
use Rattle.copy_images.specs.declared.layout.TheConstants.{MAX_COUNT}
use Rattle.cluster.specs.Worlds.{World, with_copy}
use Rattle.cluster.specs.Headline.{IsCopyOf, IsConsistent}
use Rattle.cluster.specs.Events.{IsFollower, Sends, Merges}
use Rattle.cluster.specs.Parts.{WritesImage, KeepsImage, MergesImage}
use Rattle.cluster.specs.declared.event.Outcome.{Outcome}
use Rattle.cluster.specs.declared.event.Outcome.TheVariants as outcome
use Rattle.cluster.specs.declared.event.EventError.{EventError}
use Rattle.cluster.specs.declared.event.EventError.TheVariants.{NoCopy, LeaderCopy, NoBatch, NoImage, BadBatch, Extra, Append, Trim, OutOfMemory}
use Rattle.cluster.proofs.EventSteps.{at_index, a_follower, is_follower, follower_copy, changed, changed_is, unchanged_is}
use Rattle.cluster.proofs.WorldSteps.{copy_is, image_is, after_image, after_change, merged_copy, copies_merge}

pub sent_image : (c : Content) → IsContent c → length c.cover ≤ MAX_COUNT → length c.kept ≤ MAX_COUNT → IsImage (image_of c) c
sent_image c content few_ranges few_batches = record { content = content; ranges = few_ranges; batches = few_batches; encoded = inl refl }

kept_steps : (w : World) → IsConsistent w → (copy : ℕ) (bytes : List ℕ) (after : List (List ℕ)) (r : Result Outcome EventError) → WritesImage w copy bytes → KeepsImage w.images bytes after r
    → IsConsistent (record w { images = after }) × Sends w copy (record w { images = after }) r
kept_steps w is copy bytes after (Ok (outcome.Sent number)) (c, there, few_ranges, few_batches, encoded) (grows, counted) =
    let copies : IsCopyOf w.log c = copy_is w is copy c there in
    let image : IsImage (image_of c) c = sent_image c copies.0 few_ranges few_batches in
    let same : after ≡ w.images ++ image_of c ∷ [] = grows ∙ ap (λ (x : List ℕ). w.images ++ x ∷ []) encoded in (
      subst (λ (x : List (List ℕ)). IsConsistent (record w { images = x })) (sym same) (after_image w is c copies image),
      (c, there, image, ap (λ (x : List (List ℕ)). record w { images = x }) same, counted),
    )
kept_steps w is copy bytes after (Err OutOfMemory) (c, there, few_ranges, few_batches, encoded) same =
    (subst (λ (x : List (List ℕ)). IsConsistent (record w { images = x })) (sym same) is, ((c, there), ap (λ (x : List (List ℕ)). record w { images = x }) same))
kept_steps w is copy bytes after (Ok (outcome.Based x y)) writes keeps = absurd keeps
kept_steps w is copy bytes after (Ok (outcome.Delivered x)) writes keeps = absurd keeps
kept_steps w is copy bytes after (Ok (outcome.Cleaned x)) writes keeps = absurd keeps
kept_steps w is copy bytes after (Ok outcome.Merged) writes keeps = absurd keeps
kept_steps w is copy bytes after (Ok outcome.Trimmed) writes keeps = absurd keeps
kept_steps w is copy bytes after (Err NoCopy) writes keeps = absurd keeps
kept_steps w is copy bytes after (Err LeaderCopy) writes keeps = absurd keeps
kept_steps w is copy bytes after (Err NoBatch) writes keeps = absurd keeps
kept_steps w is copy bytes after (Err NoImage) writes keeps = absurd keeps
kept_steps w is copy bytes after (Err (BadBatch x)) writes keeps = absurd keeps
kept_steps w is copy bytes after (Err Extra) writes keeps = absurd keeps
kept_steps w is copy bytes after (Err (Append x)) writes keeps = absurd keeps
kept_steps w is copy bytes after (Err (Trim x)) writes keeps = absurd keeps

-- the same, as code finds the images
pub after_kept : (W w : World) (copy : ℕ) (bytes : List ℕ) (images : List (List ℕ)) (r : Result Outcome EventError) → W ≡ w → IsConsistent W → WritesImage w copy bytes → KeepsImage W.images bytes images r
    → IsConsistent (record W { images = images }) × Sends w copy (record W { images = images }) r
after_kept W w copy bytes images r view is writes keeps =
    let done = kept_steps W is copy bytes images r (subst (λ (x : World). WritesImage x copy bytes) (sym view) writes) keeps in
    (done.0, subst (λ (x : World). Sends x copy (record W { images = images }) r) view done.1)

-- nothing was appended, seen or sent
pub new_consistent : (log : List BatchValue) (leader : Content) (followers : List Content) (images : List (List ℕ)) (n : ℕ) → log ≡ [] → leader ≡ empty → followers ≡ replicate n empty → images ≡ []
    → IsContent empty → ((l : List BatchValue) → IsPlainLog l → IsCopy empty l) → IsConsistent (record { log = log; leader = leader; followers = followers; images = images })
new_consistent log leader followers images n no_log no_leader no_followers no_images content copy =
    subst IsConsistent (λ k. record { log = sym no_log k; leader = sym no_leader k; followers = sym no_followers k; images = sym no_images k }) (record {
      plain = tt;
      leads = record { copy = copy [] tt; whole = λ o. grind (arith, ints); legal = ([], tt) };
      copies = ((content, copy [] tt), every n);
      images = tt;
    })
  where
    every : (m : ℕ) → AllByRecursion (IsCopyOf []) (replicate m empty)
    every zero = tt
    every (suc m) = ((content, copy [] tt), every m)

-- ---- a merge

module _ (w : World) (is : IsConsistent w) (copy i image : ℕ) (c : Content) (number : copy ≡ i + 1) (there : slice_get w.followers i ≡ Some c) where
  -- what the merge answered
  abbrev WasMerged : List ℕ → Content → Result Outcome EventError → Type 0
  WasMerged bytes after r =
      ((sent : Content) × (r ≡ Ok outcome.Merged) × IsImage bytes sent × (after ≡ join c sent))
      ⊎ ((r ≡ Err OutOfMemory) × (after ≡ c))

  was_merged : (bytes : List ℕ) (after : Content) (r : Result Outcome EventError) → MergesImage c bytes after r → WasMerged bytes after r
  was_merged bytes after (Ok outcome.Merged) does = inl (does.0, refl, does.1, does.2)
  was_merged bytes after (Err OutOfMemory) does = inr (refl, does)
  was_merged bytes after (Ok (outcome.Based x y)) does = absurd does
  was_merged bytes after (Ok (outcome.Cleaned x)) does = absurd does
  was_merged bytes after (Ok (outcome.Sent x)) does = absurd does
  was_merged bytes after (Ok (outcome.Delivered x)) does = absurd does
  was_merged bytes after (Ok outcome.Trimmed) does = absurd does
  was_merged bytes after (Err NoCopy) does = absurd does
  was_merged bytes after (Err LeaderCopy) does = absurd does
  was_merged bytes after (Err NoBatch) does = absurd does
  was_merged bytes after (Err NoImage) does = absurd does
  was_merged bytes after (Err (BadBatch x)) does = absurd does
  was_merged bytes after (Err Extra) does = absurd does
  was_merged bytes after (Err (Append x)) does = absurd does
  was_merged bytes after (Err (Trim x)) does = absurd does

  merged_steps : (bytes : List ℕ) (after : Content) (r : Result Outcome EventError) → slice_get w.images image ≡ Some bytes → MergesImage c bytes after r
      → IsConsistent (changed w is copy i 0 c number there after) × Merges w copy image (changed w is copy i 0 c number there after) r
  merged_steps bytes after r at does = by (was_merged bytes after r does)
    where
      follows : IsFollower w copy c
      follows = is_follower w is copy i 0 c number there

      next : World
      next = changed w is copy i 0 c number there after

      by : WasMerged bytes after r → IsConsistent (changed w is copy i 0 c number there after) × Merges w copy image (changed w is copy i 0 c number there after) r
      by (inl (sent, is_ok, of_sent, joins)) =
          let copies : IsCopyOf w.log after = subst (IsCopyOf w.log) (sym joins) (merged_copy w is c sent (follower_copy w is copy i 0 c number there) (image_is w is image bytes sent at of_sent)) in (
            subst IsConsistent (sym (changed_is w is copy i 0 c number there after)) (after_change w is copy after follows.0 copies),
            subst (Merges w copy image (changed w is copy i 0 c number there after)) (sym is_ok)
                (c, bytes, sent, follows, at, of_sent, changed_is w is copy i 0 c number there after ∙ ap (λ (x : Content). with_copy copy x w) joins),
          )
      by (inr (is_err, same)) =
          let unchanged = unchanged_is w is copy i 0 c number there after same in
          (subst IsConsistent (sym unchanged) is, subst (Merges w copy image (changed w is copy i 0 c number there after)) (sym is_err) ((c, bytes, follows, at), unchanged))

-- the same, as code finds the copy and the image
pub after_merge : (W w : World) (copy i image : ℕ) (c after : Content) (bytes : List ℕ) (images : List (List ℕ)) (r : Result Outcome EventError) → W ≡ w → IsConsistent W
    → copy ≡ i + 1 → i < length w.followers → c ≡ get_or W.followers i c → images ≡ W.images → Some bytes ≡ slice_get images image → MergesImage c bytes after r
    → IsConsistent (record W { followers = set W.followers i after }) × Merges w copy image (record W { followers = set W.followers i after }) r
after_merge W w copy i image c after bytes images r view is number lt there sent at does =
    let held : slice_get W.followers i ≡ Some c = at_index W.followers i c (omega (arith, lt, ap (λ (x : World). length x.followers) view)) there in
    let on : slice_get W.images image ≡ Some bytes = ap (λ (xs : List (List ℕ)). slice_get xs image) (sym sent) ∙ sym at in
    let done = merged_steps W is copy i image c number held bytes after r on does in
    (done.0, subst (λ (x : World). Merges x copy image (record W { followers = set W.followers i after }) r) view done.1)

-- a follower agrees with what an image holds
pub agrees_with_image : (W w : World) (copy i image : ℕ) (c : Content) (bytes : List ℕ) (images : List (List ℕ)) → W ≡ w → IsConsistent W
    → copy ≡ i + 1 → i < length w.followers → c ≡ get_or W.followers i c → images ≡ W.images → Some bytes ≡ slice_get images image
    → (sent : Content) → IsImage bytes sent → Agree c sent
agrees_with_image W w copy i image c bytes images view is number lt there sent at held of_held =
    let follower : slice_get W.followers i ≡ Some c = at_index W.followers i c (omega (arith, lt, ap (λ (x : World). length x.followers) view)) there in
    let on : slice_get W.images image ≡ Some bytes = ap (λ (xs : List (List ℕ)). slice_get xs image) (sym sent) ∙ sym at in
    copies_merge W is c held (follower_copy W is copy i 0 c number follower) (image_is W is image bytes held on of_held)

pub no_image : (W w : World) (copy i image : ℕ) (images : List (List ℕ)) → W ≡ w → copy ≡ i + 1 → i < length w.followers → images ≡ W.images → None ≡ slice_get images image
    → (c : Content) × IsFollower w copy c × (slice_get w.images image ≡ None)
no_image W w copy i image images view number lt sent at =
    let follows = a_follower w copy i number lt in
    (follows.0, follows.1, ap (λ (x : World). slice_get x.images image) (sym view) ∙ ap (λ (xs : List (List ℕ)). slice_get xs image) (sym sent) ∙ sym at)
