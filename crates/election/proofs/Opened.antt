-- What is opened to compute a system, every definition that a schedule goes through, and its listing.
use Rattle.lists.specs.Count.{count_to}
use Rattle.lists.specs.Entries.{up_to, over}
use Rattle.lists.specs.Fold.{each}
use Rattle.lists.specs.Join.{join_to}
use Rattle.lists.specs.Test.{all_to}
use Rattle.text.specs.Numbers.{digits, count_of, vector}
use Rattle.text.specs.Quoted.{text}
use Rattle.station.specs.Order.{before}
use Rattle.station.specs.Rules.{timeouts_of, started, crashed, joined, adopted, settled, heard, expired, slotted}
use Rattle.fit.specs.Fit.{ranges, kept_in, vectorless, cleared, counts_in, ranks_in, timeouts_in, alive, slot_in, timer_in, standing, fit}
use Rattle.clock.specs.Rules.{started as clockStarted, adopts, heard as clockHeard, expired as clockExpired, waited, slotted as clockSlotted, sends}
use Rattle.clock.specs.Fit.{kept_in as clockKeptIn, alive as clockAlive, timer_in as clockTimerIn, standing as clockStanding, fit as clockFit}
use Rattle.election.specs.System.{messages, holding, fresh, initial}
use Rattle.election.specs.Tick.{heard_link, heard_all, expired_now, slotted_now, settled as settledIn, sending, later, sent, tick, ticks}
use Rattle.election.specs.Sound.{empty_station, empty_message, message_in, before_slot, link_in, empty_place, empty_seat, place_in, station_in, sound}
use Rattle.election.specs.Commands.{decode, refusal, perform, command}
use Rattle.election.specs.Schedule.{follow, schedule}
use Rattle.election.specs.Listing.{status, leader_of, vector_of, stamp_of, known_of, kept_of, station_line, station_lines, dark, all_trust, a_leader, up_among, verdict, verdict_line, listing_of}

unfoldable pub rules : Unit {0}
unfolding count_to up_to over each all_to before timeouts_of started crashed joined adopted settled heard expired slotted clockStarted adopts clockHeard clockExpired waited clockSlotted sends clockKeptIn clockAlive clockTimerIn clockStanding clockFit ranges kept_in vectorless cleared counts_in ranks_in timeouts_in alive slot_in timer_in standing fit messages holding fresh initial heard_link heard_all expired_now slotted_now settledIn sending later sent tick ticks empty_station empty_message message_in before_slot link_in empty_place empty_seat place_in station_in sound decode refusal perform command follow schedule
rules = tt

unfoldable pub listings : Unit {0}
unfolding rules text digits join_to count_of vector status leader_of vector_of stamp_of known_of kept_of station_line station_lines dark all_trust a_leader up_among verdict verdict_line listing_of
listings = tt
