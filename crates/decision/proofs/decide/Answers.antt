use mathlib.Core.Path.{◌≡◌, refl}
use borrow.Author.Rules.{rules}
use lib.ListN.{get_or}
use Rattle.decision.proofs.Bytes.{understood-for, set_up-read, start-read, crash-read, link-read, run-read, lose-read, rank-read, report-read, clock_read}
use Rattle.decision.proofs.decide.Goals as goal

pub returns-in-1 : goal.returns-in-1
returns-in-1 c s ok v =
    let b = c.args.bytes.now in
    let is : get_or b 0 0 ≡ 1 = search rules in
    understood-for s c.args.seen.now b ok _ 1 is refl (set_up-read b is) (search rules) c.set_up-in-1.ensures v

pub returns-in-2 : goal.returns-in-2
returns-in-2 c s ok v =
    let b = c.args.bytes.now in
    let is : get_or b 0 0 ≡ 2 = search rules in
    understood-for s c.args.seen.now b ok _ 2 is refl (start-read b is) (search rules) c.start.ensures v

pub returns-in-3 : goal.returns-in-3
returns-in-3 c s ok v =
    let b = c.args.bytes.now in
    let is : get_or b 0 0 ≡ 3 = search rules in
    understood-for s c.args.seen.now b ok _ 3 is refl (crash-read b is) (search rules) c.crash.ensures v

pub returns-in-4 : goal.returns-in-4
returns-in-4 c s ok v =
    let b = c.args.bytes.now in
    let is : get_or b 0 0 ≡ 4 = search rules in
    understood-for s c.args.seen.now b ok _ 4 is refl (link-read b is) (search rules) c.link.ensures v

pub returns-in-5 : goal.returns-in-5
returns-in-5 c s ok v =
    let b = c.args.bytes.now in
    let is : get_or b 0 0 ≡ 5 = search rules in
    understood-for s c.args.seen.now b ok _ 5 is refl (run-read b is) (search rules) (rw c.word.ensures at c.run.ensures) v

pub returns-in-6 : goal.returns-in-6
returns-in-6 c s ok v =
    let b = c.args.bytes.now in
    let is : get_or b 0 0 ≡ 6 = search rules in
    understood-for s c.args.seen.now b ok _ 6 is refl (lose-read b is) (search rules) c.lose.ensures v

pub returns-in-8 : goal.returns-in-8
returns-in-8 c s ok v =
    let b = c.args.bytes.now in
    let is : get_or b 0 0 ≡ 8 = search rules in
    understood-for s c.args.seen.now b ok _ 8 is refl (rank-read b is) (search rules) c.rank.ensures v

pub returns-in-7 : goal.returns-in-7
returns-in-7 c s ok v =
    let b = c.args.bytes.now in
    let is : get_or b 0 0 ≡ 7 = search rules in
    understood-for s c.args.seen.now b ok _ 7 is refl (report-read b is) (search rules) c.report.ensures v

pub returns-in-9 : goal.returns-in-9
returns-in-9 c s ok v =
    let b = c.args.bytes.now in
    let is : get_or b 0 0 ≡ 9 = search rules in
    understood-for s c.args.seen.now b ok _ 9 is refl (clock_read b is) (search rules) c.set_up.ensures v
