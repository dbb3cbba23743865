use Rattle.std.proofs.Common.{◌≡◌, ◌≢◌, take}
use Rattle.sessions.specs.Waiting.{StandsAtNone}
use Rattle.sessions.specs.Growing.{KeepsStands}
use Rattle.sessions.proofs.waiting.Waiting.remove_from.Given as goal

abbrev pub invariant-loop-place : goal.invariant-loop-place
invariant-loop-place g l = (l.self.waits ≡ l.initial.self.waits) × (l.self.times ≡ l.initial.self.times) × KeepsStands (λ k. k ≢ l.fn.number) l.initial.self l.self
    × StandsAtNone l.fn.number (take l.place-index l.places) l.self
