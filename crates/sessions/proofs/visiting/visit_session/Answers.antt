use Rattle.std.proofs.Common.{◌≡◌, ◌-◌, [], true, false, sym, subst, arith, rules}
use Rattle.sessions.specs.declared.visiting.TheConstants.{MOST_OWED}
use Rattle.sessions.specs.Visits.{WantsMore, has_ended}
use Rattle.sessions.specs.Turns.{SessionState, WaitsFirst}
use Rattle.sessions.specs.Asleep.{KeepsWatch}
use Rattle.sessions.specs.Steps.{ComesIn, FailsToRead, HasGot, MayIdle, TurnsUntil}
use Rattle.sessions.proofs.Passing.{visited, not_visited}
use Rattle.sessions.proofs.Going.{read_over}
use Rattle.sessions.proofs.Watching.{sleeps_left, watch_none, watch_visit}
use Rattle.sessions.proofs.visiting.visit_session.Goals as goal

pub returns-in-Err-clause-visits : goal.returns-in-Err-clause-visits
returns-in-Err-clause-visits g c = λ whole.
    let fails : FailsToRead c.read_once.new.seat c.args.session.now c.read_once.new.session (g.R.Read.remaining c.args.from.now) (g.R.Read.remaining c.read_once.new.from) c.in-Err.why = search rules in
    let same : c.read_once.new.seat ≡ c.args.seat.now = search rules in
    not_visited c.args.clock c.args.node.now c.args.seat.now c.read_once.new.seat c.args.session.now c.read_once.new.session (g.R.Read.remaining c.args.from.now) (g.R.Read.remaining c.read_once.new.from) c.in-Err.why
    fails same (read_over c.read_once.new.seat c.args.session.now c.read_once.new.session (g.R.Read.remaining c.args.from.now) (g.R.Read.remaining c.read_once.new.from) c.in-Err.why fails)

pub returns-clause-visits : goal.returns-clause-visits
returns-clause-visits g c = λ whole.
    let came = c.read_once.ensures.comes whole in
    let comes : ComesIn c.args.seat.now c.read_once.new.seat c.args.session.now c.read_once.new.session (g.R.Read.remaining c.args.from.now) (g.R.Read.remaining c.read_once.new.from) = search (rules, came) in
    let gets : WantsMore c.args.session.now → c.args.seat.now.may_read ≡ true → c.args.seat.now.at_end ≡ false → c.in-Ok.was_interrupted ≡ false → HasGot c.args.session.now c.read_once.new.seat c.read_once.new.session = search rules in
    let turned : TurnsUntil MOST_OWED c.args.clock (has_ended c.read_once.new.seat) c.args.node.now c.read_once.new.session c.turn-stop.new.node c.turn-stop.new.self c.turn-stop.result =
    subst (λ b. TurnsUntil MOST_OWED c.args.clock b c.args.node.now c.read_once.new.session c.turn-stop.new.node c.turn-stop.new.self c.turn-stop.result) c.has_ended.ensures c.turn-stop.ensures.turns in
    let released : TurnsUntil MOST_OWED c.args.clock (has_ended c.read_once.new.seat) c.args.node.now c.read_once.new.session c.turn-stop.new.node c.release.new.self c.turn-stop.result =
    subst (λ st. TurnsUntil MOST_OWED c.args.clock (has_ended c.read_once.new.seat) c.args.node.now c.read_once.new.session c.turn-stop.new.node st c.turn-stop.result) (sym c.release.ensures) turned in
    visited c.args.clock c.args.node.now c.turn-stop.new.node c.args.seat.now c.read_once.new.seat c.args.session.now c.read_once.new.session c.release.new.self
    (g.R.Read.remaining c.args.from.now) (g.R.Read.remaining c.read_once.new.from) c.turn-stop.result
    (record { answered = c.answered.result - c.answered-before.result; was_interrupted = c.in-Ok.was_interrupted; then = c.what_then.result })
    comes gets c.read_once.ensures.reads c.read_once.ensures.writes c.read_once.ensures.ended c.read_once.ensures.closing released (search rules)
    c.what_then.ensures.goes_on c.what_then.ensures.reads_nothing c.what_then.ensures.dear

pub returns-clause-watches : goal.returns-clause-watches
returns-clause-watches g c = λ whole.
    let came = c.read_once.ensures.comes whole in
    let comes : ComesIn c.args.seat.now c.read_once.new.seat c.args.session.now c.read_once.new.session (g.R.Read.remaining c.args.from.now) (g.R.Read.remaining c.read_once.new.from) = search (rules, came) in
    watch_visit c.args.number c.args.node.now c.turn-stop.new.node c.args.waiting.now c.turn-stop.new.waiting c.args.seat.now c.read_once.new.seat c.args.session.now c.read_once.new.session c.turn-stop.new.self c.release.new.self
    (g.R.Read.remaining c.args.from.now) (g.R.Read.remaining c.read_once.new.from) comes c.turn-stop.ensures.watches c.release.ensures

pub returns-clause-sleeps : goal.returns-clause-sleeps
returns-clause-sleeps g c = λ whole idle long first none.
    let stops = c.turn-stop.ensures.turns.stops in
    let same = c.release.ensures in
    sleeps_left c.args.clock MOST_OWED c.has_ended.result c.turn-stop.new.node c.turn-stop.ensures.turns.exchanges c.turn-stop.new.self c.turn-stop.result c.turn-stop.new.waiting.waits c.args.number long (omega arith)
    (subst (λ (x : SessionState). MayIdle x.owed c.turn-stop.result) same (c.what_then.ensures.idles idle)) stops c.turn-stop.ensures.sleeps
    (subst (λ (x : SessionState). WaitsFirst c.turn-stop.new.node x.held long) same first) (subst (λ (x : SessionState). x.owed ≡ []) same none)

pub returns-in-Err-clause-watches : goal.returns-in-Err-clause-watches
returns-in-Err-clause-watches g c = λ whole.
    let fails : FailsToRead c.read_once.new.seat c.args.session.now c.read_once.new.session (g.R.Read.remaining c.args.from.now) (g.R.Read.remaining c.read_once.new.from) c.in-Err.why = search rules in
    let same : c.read_once.new.session ≡ c.args.session.now = search rules in
    subst (λ (x : SessionState). KeepsWatch c.args.number c.args.node.now c.args.waiting.now c.args.session.now c.args.node.now c.args.waiting.now x) (sym same) (watch_none c.args.number c.args.node.now c.args.waiting.now c.args.session.now)
