use Rattle.std.proofs.Common.{◌≡◌, ℕ, List, length, Some, rules, sym, ap, ◌∙◌}
use Rattle.copy_images.specs.Images.{image_of}
use Rattle.broker_state.specs.State.{Topic}
use Rattle.state_snapshots.specs.Snapshots.{state_head}
use Rattle.snapshot_drafts.specs.Drafts.{all_images}
use Rattle.snapshot_drafts.proofs.Put.{found_missing, no_other_size, of_this_size, puts_draft, puts_mark, puts_others}
use Rattle.snapshot_drafts.proofs.Whole.{part_there}
use Rattle.snapshot_drafts.proofs.draft.Draft.write.Goals as goal

pub returns-clause-writes : goal.returns-clause-writes
returns-clause-writes g c id base is at =
    let image : List ℕ = c.deref.result.now in
    let missing = found_missing c.args.self.now.topics c.args.place c.in-Some.slot c.in-Some.ensures.found c.in-Some.ensures.is_missing in
    let same : image ≡ image_of c.args.copy.now = c.deref.ensures.value ∙ c.in_ok-image_into.ensures.gives_the_image in
    puts_draft g.F.DraftFile.seen c.args.self.now c.put_image.new.self c.args.place c.in-Some.slot image c.in-Some.ensures.found c.in_ok-put_image.ensures.puts (state_head id base) (all_images base)
    (part_there (λ (t : Topic). t.partitions) image_of base.topics c.args.place c.args.copy.now (at missing) ∙ ap (λ (l : List ℕ). Some l) (sym same)) is

pub returns-clause-marks : goal.returns-clause-marks
returns-clause-marks g c = puts_mark g.F.DraftFile.seen c.args.self.now c.put_image.new.self c.args.place c.in-Some.slot c.deref.result.now c.in-Some.ensures.found c.in_ok-put_image.ensures.puts

pub returns-clause-keeps_others : goal.returns-clause-keeps_others
returns-clause-keeps_others g c = puts_others g.F.DraftFile.seen c.args.self.now c.put_image.new.self c.args.place c.in-Some.slot c.deref.result.now c.in-Some.ensures.found c.in_ok-put_image.ensures.puts

pub returns-then-len-slot-clause-fits : goal.returns-then-len-slot-clause-fits
returns-then-len-slot-clause-fits g c id base is at refused =
    let missing = found_missing c.args.self.now.topics c.args.place c.in-Some.slot c.in-Some.ensures.found c.in-Some.ensures.is_missing in
    let differs : c.in-Some.slot.size ≡ length (image_of c.args.copy.now) → ⊥ = search rules in
    differs (no_other_size g.F.DraftFile.seen (state_head id base) (all_images base) c.args.self.now c.args.place c.in-Some.slot (image_of c.args.copy.now) c.in-Some.ensures.found
    (part_there (λ (t : Topic). t.partitions) image_of base.topics c.args.place c.args.copy.now (at missing)) is)

pub returns-clause-fits_its_slot : goal.returns-clause-fits_its_slot
returns-clause-fits_its_slot g c missing =
    let same : c.in-Some.slot.size ≡ length (image_of c.args.copy.now) = search rules in
    of_this_size c.args.self.now.topics c.args.place c.in-Some.slot (image_of c.args.copy.now) c.in-Some.ensures.found same
