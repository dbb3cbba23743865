-- Each event leads from a consistent world to one, so the headline holds after each front of a list of events.
use Rattle.std.proofs.Common.{◌≡◌, ℕ, zero, suc, ℤ, Result, Ok, Err, List, [], ◌∷◌, Some, refl, sym, subst, arith, true, false}
use Rattle.content.specs.Content.{Content, cut, IsAcceptedStart}
use Rattle.cluster.specs.declared.cleaning.Cleaning.{Cleaning}
use Rattle.cluster.specs.declared.cleaning.Cleaning.TheVariants.{Whole, Part}
use Rattle.cluster.specs.declared.event.Event.{Event}
use Rattle.cluster.specs.declared.event.Event.TheVariants.{Produce, Deliver, Clean, CleanPart, Send, Merge, Trim}
use Rattle.cluster.specs.declared.event.Outcome.{Outcome}
use Rattle.cluster.specs.declared.event.Outcome.TheVariants.{Based, Delivered, Cleaned, Sent, Merged, Trimmed}
use Rattle.cluster.specs.declared.event.EventError.{EventError}
use Rattle.cluster.specs.Worlds.{World, copy_at, with_copy}
use Rattle.cluster.specs.Events.{Produces, Delivers, Cleans, Sends, Merges, Trims, Steps, Runs}
use Rattle.cluster.specs.Parts.{cleaned as left, reported}
use Rattle.cluster.specs.Headline.{IsConsistent, HoldsOnTheWay}
use Rattle.cluster.proofs.WorldSteps.{copy_is, image_is, after_change, after_image, cleaned_copy, after_leader_cleaning, trimmed_copy, after_leader_trim, merged_copy}
use Rattle.cluster.proofs.EventSteps.{on_log, added_copy}
use Rattle.cluster.proofs.AppendSteps.{after_new}
use Rattle.cluster.proofs.Headlines.{headline_of}

some_is : {X : Type 0} (x y : X) → Some x ≡ Some y → x ≡ y
some_is x y e = cc

module _ (w : World) (is : IsConsistent w) where
  same : (after : World) → after ≡ w → IsConsistent after
  same after e = subst IsConsistent (sym e) is

  another : (after next : World) → after ≡ next → IsConsistent next → IsConsistent after
  another after next e consistent = subst IsConsistent (sym e) consistent

  produced : (bytes : List ℕ) (after : World) (r : Result Outcome EventError) → Produces w bytes after r → IsConsistent after
  produced bytes after (Ok (Based base true)) (b, batch, (sendable, repeat, e)) = same after e
  produced bytes after (Ok (Based base false)) (b, batch, (new, at, e)) = another after _ e (after_new w is b bytes batch new)
  produced bytes after (Ok (Delivered x)) d = absurd d
  produced bytes after (Ok (Cleaned x)) d = absurd d
  produced bytes after (Ok (Sent x)) d = absurd d
  produced bytes after (Ok Merged) d = absurd d
  produced bytes after (Ok Trimmed) d = absurd d
  produced bytes after (Err e) d = same after d.1

  delivered : (copy batch : ℕ) (after : World) (r : Result Outcome EventError) → Delivers w copy batch after r → IsConsistent after
  delivered copy batch after (Ok (Delivered x)) (c, b, follower, there, e, answer) =
      another after _ e (after_change w is copy _ follower.0 (added_copy c b w.log is.plain (copy_is w is copy c follower.1) (on_log w.log batch b is.plain there)))
  delivered copy batch after (Ok (Based x y)) d = absurd d
  delivered copy batch after (Ok (Cleaned x)) d = absurd d
  delivered copy batch after (Ok (Sent x)) d = absurd d
  delivered copy batch after (Ok Merged) d = absurd d
  delivered copy batch after (Ok Trimmed) d = absurd d
  delivered copy batch after (Err e) d = same after d.1

  cleaned_one : (copy : ℕ) (cleaning : Cleaning) (c : Content) → copy_at w copy ≡ Some c → IsConsistent (with_copy copy (left cleaning c) w)
  cleaned_one zero cleaning c there = subst (λ (x : Content). IsConsistent (with_copy 0 (left cleaning x) w)) (some_is w.leader c there) (after_leader_cleaning w is cleaning)
  cleaned_one (suc i) cleaning c there = after_change w is (suc i) _ (omega arith) (cleaned_copy w is cleaning c (copy_is w is (suc i) c there))

  cleaned : (copy : ℕ) (cleaning : Cleaning) (after : World) (r : Result Outcome EventError) → Cleans w copy (left cleaning) (reported cleaning) after r → IsConsistent after
  cleaned copy cleaning after (Ok (Cleaned x)) (c, there, e, report) = another after _ e (cleaned_one copy cleaning c there)
  cleaned copy cleaning after (Ok (Based x y)) d = absurd d
  cleaned copy cleaning after (Ok (Delivered x)) d = absurd d
  cleaned copy cleaning after (Ok (Sent x)) d = absurd d
  cleaned copy cleaning after (Ok Merged) d = absurd d
  cleaned copy cleaning after (Ok Trimmed) d = absurd d
  cleaned copy cleaning after (Err e) d = same after d.1

  sent : (copy : ℕ) (after : World) (r : Result Outcome EventError) → Sends w copy after r → IsConsistent after
  sent copy after (Ok (Sent x)) (c, there, image, e, number) = another after _ e (after_image w is c (copy_is w is copy c there) image)
  sent copy after (Ok (Based x y)) d = absurd d
  sent copy after (Ok (Delivered x)) d = absurd d
  sent copy after (Ok (Cleaned x)) d = absurd d
  sent copy after (Ok Merged) d = absurd d
  sent copy after (Ok Trimmed) d = absurd d
  sent copy after (Err e) d = same after d.1

  merged : (copy image : ℕ) (after : World) (r : Result Outcome EventError) → Merges w copy image after r → IsConsistent after
  merged copy image after (Ok Merged) (c, bytes, other, follower, there, of_other, e) =
      another after _ e (after_change w is copy _ follower.0 (merged_copy w is c other (copy_is w is copy c follower.1) (image_is w is image bytes other there of_other)))
  merged copy image after (Ok (Based x y)) d = absurd d
  merged copy image after (Ok (Delivered x)) d = absurd d
  merged copy image after (Ok (Cleaned x)) d = absurd d
  merged copy image after (Ok (Sent x)) d = absurd d
  merged copy image after (Ok Trimmed) d = absurd d
  merged copy image after (Err e) d = same after d.1

  trimmed_one : (copy : ℕ) (start : ℤ) (c : Content) → copy_at w copy ≡ Some c → IsAcceptedStart c start → IsConsistent (with_copy copy (cut start c) w)
  trimmed_one zero start c there accepted =
      let here : w.leader ≡ c = some_is w.leader c there in
      subst (λ (x : Content). IsConsistent (with_copy 0 (cut start x) w)) here (after_leader_trim w is start (subst (λ (x : Content). IsAcceptedStart x start) (sym here) accepted))
  trimmed_one (suc i) start c there accepted = after_change w is (suc i) _ (omega arith) (trimmed_copy w is start c (copy_is w is (suc i) c there) accepted)

  trimmed : (copy : ℕ) (start : ℤ) (after : World) (r : Result Outcome EventError) → Trims w copy start after r → IsConsistent after
  trimmed copy start after (Ok Trimmed) (c, there, accepted, e) = another after _ e (trimmed_one copy start c there accepted)
  trimmed copy start after (Ok (Based x y)) d = absurd d
  trimmed copy start after (Ok (Delivered x)) d = absurd d
  trimmed copy start after (Ok (Cleaned x)) d = absurd d
  trimmed copy start after (Ok (Sent x)) d = absurd d
  trimmed copy start after (Ok Merged) d = absurd d
  trimmed copy start after (Err e) d = same after d.1

  pub stepped : {A : Type 0} (event : Event A) (after : World) (r : Result Outcome EventError) → Steps w event after r → IsConsistent after
  stepped (Produce bytes) after r does = produced bytes.items after r does
  stepped (Deliver copy batch) after r does = delivered copy batch after r does
  stepped (Clean copy upto tomb_before) after r does = cleaned copy (Whole upto tomb_before) after r does
  stepped (CleanPart copy part) after r does = cleaned copy (Part part) after r does
  stepped (Send copy) after r does = sent copy after r does
  stepped (Merge copy image) after r does = merged copy image after r does
  stepped (Trim copy start) after r does = trimmed copy start after r does

pub on_the_way : {A : Type 0} (w : World) (events : List (Event A)) (results : List (Result Outcome EventError)) (after : World) → IsConsistent w → Runs w events results after → HoldsOnTheWay w events results after
on_the_way w events results after is runs zero = (w, refl, headline_of w is, runs)
on_the_way w [] [] after is runs (suc n) = (w, refl, headline_of w is, runs)
on_the_way w [] (r ∷ results) after is runs (suc n) = absurd runs
on_the_way w (e ∷ events) [] after is runs (suc n) = absurd runs
on_the_way w (e ∷ events) (r ∷ results) after is runs (suc n) =
    let rest = on_the_way runs.0 events results after (stepped w is e runs.0 r runs.1) runs.2 n in
    (rest.0, (runs.0, runs.1, rest.1), rest.2, rest.3)
