use Rattle.std.proofs.Common.{ℕ, List, rules, sym, subst, refl}
use Rattle.std.proofs.lemmas.Result.{on_ok_weaker, IfErr-weaker}
use Rattle.subcommands.specs.Merging.{MergesImages, RefusesPair}
use Rattle.subcommands.proofs.Images.{reading_fails, printing_fails}
use Rattle.subcommands.proofs.merging.merge_stream.Goals as goal

pub returns-in-Ok-clause-prints_the_merge : goal.returns-in-Ok-clause-prints_the_merge
returns-in-Ok-clause-prints_the_merge g c =
    let read = subst (λ (xs : List ℕ). MergesImages xs c.in-Ok.image.items) c.as_slice.ensures c.in-Ok.ensures.merges in
    let merges = subst (λ (xs : List ℕ). MergesImages c.in_ok-input.input.items xs) (sym c.deref.ensures.value) read in
    on_ok_weaker c.print_image.result (λ appends. record {
      input = c.in_ok-input.input.items;
      image = c.deref.result.now;
      reads = c.in_ok-input.ensures.reads;
      merges = merges;
      appends = appends;
    }) c.print_image.ensures.writes

pub returns-in-Ok-clause-fails : goal.returns-in-Ok-clause-fails
returns-in-Ok-clause-fails g c =
    let read = subst (λ (xs : List ℕ). MergesImages xs c.in-Ok.image.items) c.as_slice.ensures c.in-Ok.ensures.merges in
    let merges = subst (λ (xs : List ℕ). MergesImages c.in_ok-input.input.items xs) (sym c.deref.ensures.value) read in
    IfErr-weaker c.print_image.result _ _
    (λ e. printing_fails c.args.source.now c.read_all.new.source c.args.sink.now c.print_image.new.sink c.in_ok-input.input.items c.deref.result.now e
    c.in_ok-input.ensures.reads c.in_ok-input.ensures.fails_no_read merges)
    c.print_image.ensures.stops

pub returns-in_err-input-clause-fails : goal.returns-in_err-input-clause-fails
returns-in_err-input-clause-fails g c =
    let stopped = IfErr-weaker c.read_all.result _ _ (reading_fails c.args.source.now c.read_all.new.source c.args.sink.now) c.read_all.ensures.stops in
    search (rules, stopped)

pub returns-clause-fails : goal.returns-clause-fails
returns-clause-fails g c =
    let refuses = subst (λ (xs : List ℕ). RefusesPair xs c.in-Err.why) c.as_slice.ensures c.in-Err.ensures.refuses in
    ((c.in_ok-input.input.items, c.in_ok-input.ensures.reads, refuses, search rules), c.in_ok-input.ensures.fails_no_read, refl)
