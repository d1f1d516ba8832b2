-- The function command meets its contract.
use mathlib.Core.Path.{◌≡◌, sym, ap, ◌∙◌}
use mathlib.Core.List.{[]}
use Prim.Native.Nat.{◌+◌}
use borrow.Author.Rules.{rules}
use lib.Seq.{length-take-le}
use Rattle.std.specs.Prelude.{Err}
use Rattle.election.specs.Commands.{number_of}
use Rattle.election.specs.declared.System.{System}
use Rattle.decision.specs.Decided.{command_of}
use Rattle.decision.proofs.Bytes.{unsound, sees-for-all}
use Rattle.decision.proofs.Decisions.{numbered, refused-number, accepted}
use Rattle.simulator.proofs.Operations.{turned_away, inside, done}
use Rattle.simulator.proofs.command.Goals as goal

pub returns-then-not-sound : goal.returns-then-not-sound
returns-then-not-sound c = unsound _ _ (sym c.if-not-sound.ensures)

pub returns-in_err-decide : goal.returns-in_err-decide
returns-in_err-decide c =
    let s = c.args.s.now in
    let bytes = c.args.bytes.now in
    let ok = sym c.if-not-sound.ensures in
    let why = c.in_err-decide.field-0.0 in
    let e : c.from_residual.result ≡ Err why = search rules in
    rw e (turned_away s bytes (number_of why) (refused-number s bytes ok why (c.in_err-decide.ensures s ok (sees-for-all s _ bytes c.from.ensures))) (numbered why))

pub slice_bounds-go_on-end : goal.slice_bounds-go_on-end
slice_bounds-go_on-end c =
    let s = c.args.s.now in
    let bytes = c.args.bytes.now in
    let ok = sym c.if-not-sound.ensures in
    let w = c.width-size in
    sym (length-take-le (1 + w.result) bytes (inside s bytes (accepted s bytes ok (command_of c.in_ok-decide.field-0) (c.in_ok-decide.ensures s ok (sees-for-all s _ bytes c.from.ensures))) w.result w.ensures))

pub returns : goal.returns
returns c =
    let s = c.args.s.now in
    let bytes = c.args.bytes.now in
    let ok = sym c.if-not-sound.ensures in
    let w = c.width-size in
    let layout = c.layout_of-layout in
    ap (λ (y : System). record { refusal = 0; length = 1 + w.result; system = y }) c.system_of.ensures
    ∙ done s bytes (accepted s bytes ok (command_of c.in_ok-decide.field-0) (c.in_ok-decide.ensures s ok (sees-for-all s _ bytes c.from.ensures))) w.result w.ensures [] c.go_on.new.buffer layout.result c.go_on.new.s c.go_on.result layout.ensures c.go_on.ensures
