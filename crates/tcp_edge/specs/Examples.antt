-- Lines of arguments that ask for a subcommand with arguments of its own: one for each.
use Rattle.std.specs.Prelude.{List, [], ◌∷◌, codes}
use Rattle.clap.specs.Words.{Text}

-- kbroker session t:1
abbrev pub session_line : List Text
session_line = codes "kbroker" ∷ codes "session" ∷ codes "t:1" ∷ []

-- kbroker serve --port 0 --connections 1 t:1
abbrev pub serve_line : List Text
serve_line =
    codes "kbroker" ∷ codes "serve" ∷ codes "--port" ∷ codes "0" ∷ codes "--connections" ∷ codes "1" ∷ codes "t:1" ∷ []

-- kbroker start --advertise h:1 t:1
abbrev pub start_line : List Text
start_line = codes "kbroker" ∷ codes "start" ∷ codes "--advertise" ∷ codes "h:1" ∷ codes "t:1" ∷ []

-- kbroker check data
abbrev pub check_line : List Text
check_line = codes "kbroker" ∷ codes "check" ∷ codes "data" ∷ []

-- kbroker replay
abbrev pub replay_line : List Text
replay_line = codes "kbroker" ∷ codes "replay" ∷ []
