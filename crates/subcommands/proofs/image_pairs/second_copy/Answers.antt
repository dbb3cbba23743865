use Rattle.std.proofs.Common.{rules, ◌<◌, length, inl, inr}
use Rattle.std.specs.Prelude.{◌≢◌}
use Rattle.copy_images.specs.declared.error.ImageError.TheVariants as image
use Rattle.subcommands.proofs.Pairs.{extra_behind, is_unread_image}
use Rattle.subcommands.proofs.image_pairs.second_copy.Goals as goal

pub returns-then-not-is_empty-clause-refuses : goal.returns-then-not-is_empty-clause-refuses
returns-then-not-is_empty-clause-refuses g c = λ whole first starts.
    let some : 0 < length c.in-Some.rest.now = search rules in
    extra_behind whole c.args.input.now c.in-Some.image.now c.in-Some.rest.now first _ starts c.in-Some.ensures c.in-Ok.ensures.accepts_an_image some

pub returns-then-not-is_empty-2-clause-refuses : goal.returns-then-not-is_empty-2-clause-refuses
returns-then-not-is_empty-2-clause-refuses g c = λ whole first starts.
    let some : 0 < length c.in-Some.rest.now = search rules in
    let unread = is_unread_image c.in-Some.image.now _ (search rules) c.in-Err-OutOfMemory.ensures.refuses_for_the_first_fault in
    extra_behind whole c.args.input.now c.in-Some.image.now c.in-Some.rest.now first unread.0 starts c.in-Some.ensures unread.1 some

pub returns-in-Err-clause-refuses : goal.returns-in-Err-clause-refuses
returns-in-Err-clause-refuses g c = λ whole first starts.
    let other : c.in-Err.why ≢ image.OutOfMemory = search rules in
    (first, c.args.input.now, starts, inl (inr (c.in-Some.image.now, c.in-Some.rest.now, c.in-Some.ensures, c.in-Err.ensures.refuses_for_the_first_fault, other)))
