use Rattle.content_laws.proofs.ContentSteps.{clean_batch_thins, part_batch_thins}
use Rattle.content.specs.Cleaning.{clean_batch}
use Rattle.content.specs.Parts.{clean_batch_by_part}
use Rattle.broker_state.specs.State.{content_at}
use Rattle.fetch_waits.proofs.Cleaning.{thinned_grows, waits_with}
use Rattle.fetch_waits.proofs.laws.a_cleaning_ends_no_wait.Goals as goal

pub returns : goal.returns
returns c = record {
  whole = λ s name p q upto tomb_before. let held = content_at s name p in
      waits_with s name p _ (thinned_grows (clean_batch held upto tomb_before) (clean_batch_thins held upto tomb_before) held) q;
  part = λ s name p q part. let held = content_at s name p in
      waits_with s name p _ (thinned_grows (clean_batch_by_part part held) (part_batch_thins part held) held) q;
}
