use Rattle.std.proofs.Common.{FitsSigned, w64, rules, to_z, of_z, sym, ◌∙◌}
use Rattle.std.proofs.lemmas.Int.{to_z-of_z}
use Rattle.copy_requests.specs.declared.clean.Cleaning.TheVariants.{Whole, Part}
use Rattle.copy_requests.proofs.Counts.{cleans}
use Rattle.copy_requests.proofs.clean.clean_copy.Goals as goal

pub returns-in-Whole : goal.returns-in-Whole
returns-in-Whole g c =
    let upto : FitsSigned w64 c.in-Whole.upto = search rules in
    let tomb_before : FitsSigned w64 c.in-Whole.tomb_before = search rules in
    cleans c.args.copy.now c.clean.new.self c.args.cleaning (Whole (to_z w64 (of_z w64 c.in-Whole.upto)) (to_z w64 (of_z w64 c.in-Whole.tomb_before))) c.clean.result c.end.ensures.is_content
    ((λ i. Whole (to_z-of_z w64 c.in-Whole.upto upto i) (to_z-of_z w64 c.in-Whole.tomb_before tomb_before i)) ∙ sym c.in-Whole.is)
    c.clean.ensures.cleans c.clean.ensures.reports c.clean.ensures.unchanged_on_error

pub returns-in-Part : goal.returns-in-Part
returns-in-Part g c =
    cleans c.args.copy.now c.clean_part.new.self c.args.cleaning (Part c.in-Part.part) c.clean_part.result c.end.ensures.is_content (sym c.in-Part.is)
    c.clean_part.ensures.cleans c.clean_part.ensures.reports c.clean_part.ensures.unchanged_on_error
