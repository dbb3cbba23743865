use Rattle.std.proofs.Common.{ℕ, ℤ, List, w32, w64, rules, ◌≡◌, sym, ap, subst, ◌∙◌}
use Rattle.std.proofs.lemmas.Int.{to_z-of_z}
use Rattle.std.proofs.lemmas.List.{with_items_is}
use mir.Val.{SFits}
use Rattle.batch_codec.specs.Values.{BatchValue}
use Rattle.batch_codec.specs.Reading.{IsEncoding, batch_of}
use Rattle.batch_codec.specs.Rebase.{with_base}
use Rattle.log_tests.proofs.tests.store.rebased.Goals as goal

-- of bytes that were copied and then given the base
rebased_batch : (b : BatchValue) (read copied items written : List ℕ) (base epoch : ℤ) → batch_of read ≡ b → copied ≡ read → items ≡ copied
    → batch_of written ≡ with_base base epoch (batch_of items) → batch_of written ≡ with_base base epoch b
rebased_batch b read copied items written base epoch is copies same sets =
    sets ∙ ap (λ (x : List ℕ). with_base base epoch (batch_of x)) (same ∙ copies) ∙ ap (with_base base epoch) is

pub returns-clause-encoding : goal.returns-clause-encoding
returns-clause-encoding g c =
    subst IsEncoding (sym (with_items_is c.in_ok-bytes.bytes c.set_base.new.batch (search rules))) c.set_base.ensures.stays_an_encoding

pub returns-clause-batch : goal.returns-clause-batch
returns-clause-batch g c =
    let base : SFits w64 c.args.base = search rules in
    let epoch : SFits w32 c.args.leader_epoch = search rules in
    ap batch_of (with_items_is c.in_ok-bytes.bytes c.set_base.new.batch (search rules))
    ∙ rebased_batch c.args.batch.now c.bytes.result.now c.in_ok-bytes.bytes.items c.deref_mut.result.now c.set_base.new.batch c.args.base c.args.leader_epoch c.bytes.ensures.opens_as_this c.in_ok-bytes.ensures.items c.deref_mut.ensures.value (simp to_z-of_z at c.set_base.ensures.sets_both)
