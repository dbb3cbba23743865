use Rattle.std.proofs.Common.{◌+ℤ◌, Bool, [], ◌∷◌, ◌++◌, sym, subst}
use Rattle.std.specs.Prelude.{if◌then◌else◌}
use Rattle.std.proofs.lemmas.Result.{on_ok_weaker}
use Rattle.batch_codec.specs.Views.{record_value}
use Rattle.content.specs.Records.{LogRecord}
use Rattle.cleaner.specs.Latest.{Means}
use Rattle.cleaner.proofs.older.put_counted.Goals as goal

pub returns-then-counts : goal.returns-then-counts
returns-then-counts g c =
    let x : LogRecord = (c.args.head.now.base +ℤ c.args.rec.now.delta, record_value c.args.rec.now) in
    on_ok_weaker c.put_view.result (λ puts xs means. subst (λ (t : Bool). Means c.put_view.new.latest (xs ++ (if t then x ∷ [] else []))) (sym c.if-counts.true) (puts xs means)) c.put_view.ensures
