use Rattle.std.proofs.Common.{[], ◌∷◌, ap, rules, subst}
use Rattle.std.specs.Int.{w32}
use Rattle.std.proofs.lemmas.Int.{to_z-of_z}
use Rattle.sessions.specs.Growing.{Marks}
use Rattle.sessions.proofs.Marked.{all_marked, entries_in, first_entry, some_more}
use Rattle.sessions.proofs.waiting.Waiting.mark_topic.Goals as goal

pub loop-entry-preserved : goal.loop-entry-preserved
loop-entry-preserved g c =
    let s = c.args.state.now in
    let name = c.args.topic.name.now in
    let index = c.in-Some.entry.index in
    let marks = subst (λ p. Marks s c.loop-entry.self c.mark.new.self (record { topic = name; partition = p } ∷ [])) (to_z-of_z w32 index (search rules)) c.mark.ensures.marks in
    some_more s c.args.self.now _ c.loop-entry.self c.mark.new.self _ (record { topic = name; partition = index } ∷ []) _ (first_entry name _ _ _ c.in-Some.ensures.steps) c.loop-entry.invariant marks

pub returns : goal.returns
returns g c = record { marks = all_marked c.args.state.now c.args.self.now _ c.loop-entry.self _ (ap (entries_in c.args.topic.name.now) c.in-None.ensures.steps.0) c.loop-entry.invariant }
