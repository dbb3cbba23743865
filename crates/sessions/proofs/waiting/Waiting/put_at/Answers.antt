use Rattle.std.proofs.Common.{refl, sym, ap, is_some, ◌∙◌}
use Rattle.std.specs.Option.{option_copied_mut}
use Rattle.sessions.proofs.Joining.{put_joins, puts_there, same_joins}
use Rattle.sessions.proofs.Standers.{standers_kept, standers_put}
use Rattle.sessions.proofs.waiting.Waiting.put_at.Goals as goal

pub returns-in_default-clause-joins : goal.returns-in_default-clause-joins
returns-in_default-clause-joins g c s due =
    same_joins s c.args.number due _ c.args.self.now _ c.self.view_is (ap (λ m. m.entries) c.get_mut.follows.holds-at-none) refl refl (λ j other. refl) (λ j other. refl)

pub returns-clause-joins : goal.returns-clause-joins
returns-clause-joins g c s due =
    let here = sym c.get_mut.ensures.value ∙ ap option_copied_mut c.in-Some.is in
    let written = (c.get_mut.follows.holds c.put.new.self).3 (ap is_some here) in
    put_joins s c.args.number due _ c.args.self.now _ c.self.view_is c.args.place c.in-Some.stand.now c.put.new.self refl refl here written.0 c.put.ensures.stays

pub returns-clause-puts : goal.returns-clause-puts
returns-clause-puts g c =
    let here = sym c.get_mut.ensures.value ∙ ap option_copied_mut c.in-Some.is in
    let written = (c.get_mut.follows.holds c.put.new.self).3 (ap is_some here) in
    puts_there c.put.result c.args.number c.args.place c.args.room c.args.entry _ c.args.self.now _ c.in-Some.stand.now c.put.new.self c.self.view_is here written.1 c.put.ensures.puts

pub returns-in_default-clause-standers : goal.returns-in_default-clause-standers
returns-in_default-clause-standers g c placed = standers_kept _ c.args.self.now _ c.self.view_is (λ k. refl) (ap (λ m. m.entries) c.get_mut.follows.holds-at-none)

pub returns-clause-standers : goal.returns-clause-standers
returns-clause-standers g c =
    let here = sym c.get_mut.ensures.value ∙ ap option_copied_mut c.in-Some.is in
    let written = (c.get_mut.follows.holds c.put.new.self).3 (ap is_some here) in
    standers_put c.args.number c.args.place _ c.args.self.now _ c.in-Some.stand.now c.put.new.self c.self.view_is refl here written.0 c.put.ensures.stays
