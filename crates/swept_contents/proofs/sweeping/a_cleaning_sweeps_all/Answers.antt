use Rattle.swept_contents.proofs.SweptParts.{clean_sweeps}
use Rattle.swept_contents.proofs.sweeping.a_cleaning_sweeps_all.Goals as goal

pub returns : goal.returns
returns c = record { swept = clean_sweeps; settled = λ u d x content. clean_sweeps u u d x content }
