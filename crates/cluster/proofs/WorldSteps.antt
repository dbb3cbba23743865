-- Each event leaves every copy and every image a copy of the log.
use Rattle.std.proofs.Common.{◌≡◌, ℕ, zero, suc, ◌<◌, ℤ, inl, inr, List, [], ◌∷◌, ◌++◌, set, Some, subst, arith}
use Rattle.std.specs.Prelude.{slice_get}
use Rattle.std.specs.List.{AllByRecursion}
use Rattle.batch_codec.specs.Values.{BatchValue}
use Rattle.batch_codec.specs.Offsets.{first_offset}
use Rattle.content.specs.Windows.{heads}
use Rattle.content.specs.Content.{Content, IsContent, IsLogBatch, add, cut, IsAcceptedStart}
use Rattle.content.specs.Joins.{join, Agree}
use Rattle.content.specs.Logs.{IsPlainLog, next_offset}
use Rattle.content.specs.LegalLogs.{IsNew, IsLeaderCopy}
use Rattle.content_laws.proofs.ContentSteps.{content_clean, content_part, content_cut, content_join}
use Rattle.content_laws.proofs.CopyGrow.{copy_of_longer}
use Rattle.content_laws.proofs.CopyClean.{copy_of_clean, copy_of_part}
use Rattle.content_laws.proofs.CopyCut.{copy_of_cut}
use Rattle.content_laws.proofs.CopyStarts.{accepted_boundary, accepted_in_range}
use Rattle.content_laws.proofs.CopyJoin.{copies_agree, copy_of_join}
use Rattle.content_laws.proofs.LeaderCopies.{leader_append, leader_clean, leader_part, leader_cut}
use Rattle.copy_images.specs.Images.{image_of, IsImage}
use Rattle.cluster.specs.Worlds.{World, copy_at, with_copy, with_appended, with_image_of}
use Rattle.cluster.specs.declared.cleaning.Cleaning.{Cleaning}
use Rattle.cluster.specs.declared.cleaning.Cleaning.TheVariants.{Whole, Part}
use Rattle.cluster.specs.Parts.{cleaned}
use Rattle.cluster.specs.Headline.{IsCopyOf, IsImageOfCopy, IsConsistent, IsHeld}
use Rattle.cluster.proofs.LogEnds.{longer_log}
use Rattle.copy_images.proofs.FirstFaults.{one_copy}

-- ---- lists of which each element has a property

some_same : {X : Type 0} (x y : X) → Some x ≡ Some y → x ≡ y
some_same x y e = cc

module _ {X : Type 0} (P : X → Type 0) where
  pub all_get : (xs : List X) (n : ℕ) (x : X) → AllByRecursion P xs → slice_get xs n ≡ Some x → P x
  all_get [] n x all there = absurd (grind (arith, there))
  all_get (z ∷ zs) zero x all there = subst P (some_same z x there) all.0
  all_get (z ∷ zs) (suc n) x all there = all_get zs n x all.1 there

  all_set : (xs : List X) (n : ℕ) (y : X) → AllByRecursion P xs → P y → AllByRecursion P (set xs n y)
  all_set [] n y all is = tt
  all_set (z ∷ zs) zero y all is = (is, all.1)
  all_set (z ∷ zs) (suc n) y all is = (all.0, all_set zs n y all.1 is)

  all_both : (xs ys : List X) → AllByRecursion P xs → AllByRecursion P ys → AllByRecursion P (xs ++ ys)
  all_both [] ys left right = right
  all_both (x ∷ xs) ys left right = (left.0, all_both xs ys left.1 right)

  pub all_imply : (Q : X → Type 0) (xs : List X) → ((x : X) → P x → Q x) → AllByRecursion P xs → AllByRecursion Q xs
  all_imply Q [] each all = tt
  all_imply Q (x ∷ xs) each all = (each x all.0, all_imply Q xs each all.1)

-- ---- the copies of a consistent world

module _ (w : World) (is : IsConsistent w) where
  pub leader_copy : IsCopyOf w.log w.leader
  leader_copy = is.copies.0

  pub copy_is : (copy : ℕ) (c : Content) → copy_at w copy ≡ Some c → IsCopyOf w.log c
  copy_is zero c there = subst (IsCopyOf w.log) (some_same w.leader c there) leader_copy
  copy_is (suc i) c there = all_get (IsCopyOf w.log) w.followers i c is.copies.1 there

  pub image_is : (image : ℕ) (bytes : List ℕ) (c : Content) → slice_get w.images image ≡ Some bytes → IsImage bytes c → IsCopyOf w.log c
  image_is image bytes c there of_c =
      let held = all_get (IsImageOfCopy w.log) w.images image bytes is.images there in
      subst (IsCopyOf w.log) (one_copy bytes held.0 c held.1 of_c) held.2

  pub held_is : (c : Content) → IsHeld w c → IsCopyOf w.log c
  held_is c (inl (copy, there)) = copy_is copy c there
  held_is c (inr (image, bytes, there, of_c)) = image_is image bytes c there of_c

  -- a follower is replaced
  pub after_change : (copy : ℕ) (c : Content) → 0 < copy → IsCopyOf w.log c → IsConsistent (with_copy copy c w)
  after_change zero c low copy = absurd (omega arith)
  after_change (suc i) c low copy = record {
    plain = is.plain;
    leads = is.leads;
    copies = (leader_copy, all_set (IsCopyOf w.log) w.followers i c is.copies.1 copy);
    images = is.images;
  }

  pub after_image : (c : Content) → IsCopyOf w.log c → IsImage (image_of c) c → IsConsistent (with_image_of c w)
  after_image c copy image = record {
    plain = is.plain;
    leads = is.leads;
    copies = is.copies;
    images = all_both (IsImageOfCopy w.log) w.images (image_of c ∷ []) is.images ((c, image, copy), tt);
  }

  pub cleaned_copy : (cleaning : Cleaning) (c : Content) → IsCopyOf w.log c → IsCopyOf w.log (cleaned cleaning c)
  cleaned_copy (Whole upto tomb_before) c copy = (content_clean upto tomb_before c copy.0, copy_of_clean upto tomb_before c w.log copy.0 is.plain copy.1)
  cleaned_copy (Part part) c copy = (content_part part c copy.0, copy_of_part part c w.log copy.0 is.plain copy.1)

  cleaned_leader : (cleaning : Cleaning) → IsLeaderCopy (cleaned cleaning w.leader) w.log
  cleaned_leader (Whole upto tomb_before) = leader_clean upto tomb_before w.leader w.log leader_copy.0 is.plain is.leads
  cleaned_leader (Part part) = leader_part part w.leader w.log leader_copy.0 is.plain is.leads

  pub after_leader_cleaning : (cleaning : Cleaning) → IsConsistent (with_copy 0 (cleaned cleaning w.leader) w)
  after_leader_cleaning cleaning = record {
    plain = is.plain;
    leads = cleaned_leader cleaning;
    copies = (cleaned_copy cleaning w.leader leader_copy, is.copies.1);
    images = is.images;
  }

  pub trimmed_copy : (start : ℤ) (c : Content) → IsCopyOf w.log c → IsAcceptedStart c start → IsCopyOf w.log (cut start c)
  trimmed_copy start c copy accepted = (content, copy_of_cut c start w.log copy.0 is.plain copy.1 (accepted_boundary c w.log copy.0 is.plain copy.1 start accepted) accepted.from_start content)
    where
      content : IsContent (cut start c)
      content = content_cut c start copy.0 accepted.from_start (accepted_in_range c w.log copy.0 is.plain copy.1 start accepted)

  pub after_leader_trim : (start : ℤ) → IsAcceptedStart w.leader start → IsConsistent (with_copy 0 (cut start w.leader) w)
  after_leader_trim start accepted = record {
    plain = is.plain;
    leads = leader_cut w.leader start w.log leader_copy.0 is.plain is.leads accepted;
    copies = (trimmed_copy start w.leader leader_copy accepted, is.copies.1);
    images = is.images;
  }

  pub copies_merge : (a b : Content) → IsCopyOf w.log a → IsCopyOf w.log b → Agree a b
  copies_merge a b left right = copies_agree a b w.log left.0 right.0 is.plain left.1 right.1

  pub merged_copy : (a b : Content) → IsCopyOf w.log a → IsCopyOf w.log b → IsCopyOf w.log (join a b)
  merged_copy a b left right = (content_join a b left.0 right.0, copy_of_join a b w.log left.0 right.0 is.plain left.1 right.1)

  -- the leader appends a batch that is new
  pub after_append : (b : BatchValue) → IsLogBatch b → first_offset b ≡ next_offset w.log → IsContent (add w.leader b) → IsNew (heads w.log) w.leader.start b.head
      → IsConsistent (with_appended b w)
  after_append b log_batch first content new = record {
    plain = plain;
    leads = leads;
    copies = ((content, leads.copy), all_imply (IsCopyOf w.log) (IsCopyOf (w.log ++ b ∷ [])) w.followers longer is.copies.1);
    images = all_imply (IsImageOfCopy w.log) (IsImageOfCopy (w.log ++ b ∷ [])) w.images (λ bytes held. (held.0, held.1, longer held.0 held.2)) is.images;
  }
    where
      plain : IsPlainLog (w.log ++ b ∷ [])
      plain = longer_log w.log b is.plain log_batch first

      leads : IsLeaderCopy (add w.leader b) (w.log ++ b ∷ [])
      leads = leader_append w.leader b w.log leader_copy.0 plain is.leads new

      longer : (c : Content) → IsCopyOf w.log c → IsCopyOf (w.log ++ b ∷ []) c
      longer c copy = (copy.0, copy_of_longer c w.log b copy.0 plain copy.1)
