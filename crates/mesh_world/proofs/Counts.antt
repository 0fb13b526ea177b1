-- An action leaves as many remotes as there are.
use Rattle.std.proofs.Common.{◌≡◌, ℕ, zero, suc, ◌+◌, List, [], ◌∷◌, length, refl, ◌∙◌}
use Rattle.std.proofs.lemmas.List.{length-map, length-set}
use Rattle.flaky_link.specs.Link.{fate, failed, passed}
use Rattle.flaky_link.specs.declared.state.Fate.{Fate}
use Rattle.flaky_link.specs.declared.state.Fate.TheVariants.{Passes, FailsBefore, FailsAfter}
use Rattle.exporter.specs.State.{after_stop, turns}
use Rattle.exporter.specs.Talks.{export_talk, keep_talk, start_talk}
use Rattle.reflector.specs.Talks.{turn_talk}
use Rattle.scenario_lang.specs.declared.scenario.Action.{Action}
use Rattle.scenario_lang.specs.declared.scenario.Action.TheVariants as action
use Rattle.scenario_lang.specs.declared.scenario.LinkName.{LinkName}
use Rattle.scenario_lang.specs.declared.scenario.LinkName.TheVariants as link
use Rattle.store_api.specs.Calls.{Request, Heard, Missed, Talk, Ends, Asks, to_commit, to_compact, to_tick}
use Rattle.store_api.specs.Spans.{unread}
use Rattle.mesh_world.specs.Actions.{Does, act, came_to, changes, most, place_of, raw_op, speak, tick_from, when_of, with_failure, with_way}
use Rattle.mesh_world.specs.Asking.{Outcome, Made, LostBefore, LostAfter, Next, answer_of, done, ask, ask_by, ask_surely, ask_through, at_link, counted, counted_lost, made_of, play}
use Rattle.mesh_world.specs.Records.{address_key, address_of, declaring, declaring_node, identity_key, identity_of, withdrawing}
use Rattle.mesh_world.specs.World.{Remote, World, at_remote, at_store, contents_at, link_of, remote_at, store_of, with_exporter, with_link, with_reader}

abbrev KeepsCount : Does → Type 0
KeepsCount does = (w : World) (os : List Outcome) → length (does w os).0.remotes ≡ length w.remotes

remote_count : (remote : ℕ) (change : Remote → Remote) (w : World) → length (at_remote remote change w).remotes ≡ length w.remotes
remote_count remote change w = length-set w.remotes remote (change (remote_at w remote))

ask_count : (place : ℕ) (request : Request) (next : Heard → Does) → ((heard : Heard) → KeepsCount (next heard)) → KeepsCount (ask place request next)
ask_count place request next keeps w [] = keeps (answer_of request Next (contents_at w place)) (at_store place (made_of request Next) w) []
ask_count place request next keeps w (Made number ∷ more) = keeps (answer_of request number (contents_at w place)) (counted place (at_store place (made_of request number) w)) more
ask_count place request next keeps w (LostBefore ∷ more) = keeps Missed (counted_lost place w) more
ask_count place request next keeps w (LostAfter number ∷ more) = keeps Missed (counted_lost place (at_store place (made_of request number) w)) more

surely_count : (place : ℕ) (request : Request) → KeepsCount (ask_surely place request)
surely_count place request w [] = refl
surely_count place request w (outcome ∷ more) = refl

by_count : (f : Fate) (name : LinkName) (remote : ℕ) (request : Request) (next : Heard → Does) → ((heard : Heard) → KeepsCount (next heard)) → KeepsCount (ask_by f name remote request next)
by_count Passes name remote request next keeps w os = ask_count (store_of remote) request next keeps (at_link name remote passed w) os ∙ remote_count remote (with_link name passed) w
by_count FailsBefore name remote request next keeps w os = keeps Missed (at_link name remote failed w) os ∙ remote_count remote (with_link name failed) w
by_count FailsAfter name remote request next keeps w os = ask_count (store_of remote) request (λ heard. next Missed) (λ heard. keeps Missed) (at_link name remote failed w) os ∙ remote_count remote (with_link name failed) w

through_count : (name : LinkName) (remote : ℕ) (request : Request) (next : Heard → Does) → ((heard : Heard) → KeepsCount (next heard)) → KeepsCount (ask_through name remote request next)
through_count name remote request next keeps w os = by_count (fate (link_of name (remote_at w remote))) name remote request next keeps w os

play_count : {X : Type 0} (name : LinkName) (remote : ℕ) (talk : Talk (Unit {0}) X) (rest : X → Does) → ((came : X) → KeepsCount (rest came)) → KeepsCount (play name remote talk rest)
play_count name remote (Ends came) rest keeps w os = keeps came w os
play_count name remote (Asks way request next) rest keeps w os = through_count name remote request (λ heard. play name remote (next heard) rest) (λ heard. play_count name remote (next heard) rest keeps) w os

speak_count : {X : Type 0} (name : LinkName) (remote : ℕ) (talk : Remote → Talk (Unit {0}) X) (ends : X → Remote → Remote) → KeepsCount (speak name remote talk ends)
speak_count name remote talk ends w os = play_count name remote (talk (remote_at w remote)) (λ came. changes (at_remote remote (ends came))) (λ came v ps. remote_count remote (ends came) v) w os

tick_count : (place n seconds : ℕ) → KeepsCount (tick_from place n seconds)
tick_count place zero seconds w os = refl
tick_count place (suc n) seconds w os = ask_count place (to_tick seconds) (λ heard. tick_from (place + 1) n seconds) (λ heard. tick_count (place + 1) n seconds) w os

pub act_count : (x : Action) → KeepsCount (act x)
act_count (action.Node remote name addresses) w os = remote_count remote (with_exporter (declaring_node name addresses)) w
act_count (action.Identity remote identity labels) w os = remote_count remote (with_exporter (declaring (identity_key identity) (identity_of labels))) w
act_count (action.Address remote ip identity host pod) w os = remote_count remote (with_exporter (declaring (address_key ip) (address_of ip identity host pod))) w
act_count (action.Withdraw remote withdrawn) w os = remote_count remote (with_exporter (withdrawing withdrawn)) w
act_count (action.Start remote) w os = speak_count link.Exporter remote (λ r. start_talk r.exporter) came_to w os
act_count (action.Stop remote) w os = remote_count remote (with_exporter after_stop) w
act_count (action.Keep remote) w os = speak_count link.Exporter remote (λ r. keep_talk r.exporter) came_to w os
act_count (action.Export remote count) w os = speak_count link.Exporter remote (λ r. export_talk (turns (most count) r.exporter) r.exporter) came_to w os
act_count (action.Raw remote write) w os = ask_count (store_of remote) (to_commit (raw_op write ∷ [])) (λ heard. done) (λ heard v ps. refl) w os
act_count (action.Tick seconds) w os = tick_count 0 (length w.remotes + 1) seconds w os
act_count (action.Compact which upto) w os = surely_count (place_of which) (to_compact upto) w os
act_count (action.Link remote name up) w os = remote_count remote (with_link name (with_way up)) w
act_count (action.Fail remote name skip moment) w os = remote_count remote (with_link name (with_failure skip (when_of moment))) w
act_count (action.Turn remote count) w os = speak_count link.Agent remote (λ r. turn_talk (most count) r.reader) (λ read. with_reader (λ before. read)) w os
act_count action.RestartAgent w os = length-map w.remotes (with_reader (λ r. unread))
act_count action.Report w os = refl
