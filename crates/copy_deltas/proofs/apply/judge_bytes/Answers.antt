use Rattle.std.proofs.Common.{ℤ, sym, subst, rules, FitsSigned}
use Rattle.std.specs.Int.{w64}
use Rattle.std.proofs.lemmas.Int.{to_z-of_z}
use Rattle.copy_deltas.specs.declared.error.PatchError.TheVariants.{Disagree}
use Rattle.copy_deltas.specs.Applying.{RefusesDelta}
use Rattle.copy_deltas.proofs.Applied.{taken_parts, not_accepted, fault_refused, fault_other}
use Rattle.copy_deltas.proofs.apply.judge_bytes.Goals as goal

pub returns-in-Err-clause-refuses : goal.returns-in-Err-clause-refuses
returns-in-Err-clause-refuses g c =
    fault_refused c.args.copy.now c.args.bytes.now c.fault_of.result (c.fault_of.ensures c.args.bytes.now c.in-Err.ensures.refuses_for_the_first_fault)

pub returns-in-Ok-judge_parts-clause-accepts : goal.returns-in-Ok-judge_parts-clause-accepts
returns-in-Ok-judge_parts-clause-accepts g c =
    taken_parts c.args.copy.now c.args.bytes.now c.in-Ok.delta c.in-Ok.ensures.accepts_a_delta (c.knows_all.ensures.known.0 c.if-not-knows_all.false) c.in-Ok-judge_parts.ensures.accepts

pub returns-in-Err-judge_parts-clause-refuses : goal.returns-in-Err-judge_parts-clause-refuses
returns-in-Err-judge_parts-clause-refuses g c =
    let fits : FitsSigned w64 c.in-Err-judge_parts.base = search rules in
    subst (λ (base : ℤ). RefusesDelta c.args.copy.now c.args.bytes.now (Disagree base)) (sym (to_z-of_z w64 c.in-Err-judge_parts.base fits))
    (not_accepted c.args.copy.now c.args.bytes.now c.in-Ok.delta c.in-Err-judge_parts.base c.in-Ok.ensures.accepts_a_delta (c.knows_all.ensures.known.0 c.if-not-knows_all.false) c.in-Err-judge_parts.ensures.refuses)

pub returns-in-Err-clause-takes_no_memory : goal.returns-in-Err-clause-takes_no_memory
returns-in-Err-clause-takes_no_memory g c = fault_other c.args.bytes.now c.fault_of.result (c.fault_of.ensures c.args.bytes.now c.in-Err.ensures.refuses_for_the_first_fault)
