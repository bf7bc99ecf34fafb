-- The names of other modules that the proofs of this crate cite, passed on: a proof takes all that it cites of them by one
-- line.
pub use Rattle.std.proofs.{Math.Seq.take-add, lemmas.Bool.and_parts, lemmas.Bool.or_cases, lemmas.Bool.leb-true, lemmas.Bool.le-leb, lemmas.Bool.lt-leb, lemmas.List.append-nil, lemmas.List.take-append-drop, lemmas.List.length-drop, lemmas.List.length-take, lemmas.List.append_cancel_right, lemmas.Result.on_ok_weaker, lemmas.Slice.Eq.bytes_eq-Decides, lemmas.Str.IsUtf8-from_ascii}
pub use Rattle.std.proofs.Common.{◌≡◌, inl, inr, suc, ◌+◌, ◌≤◌, List, [], ◌∷◌, ◌++◌, Option, Some, None, refl, sym, ap, ◌∙◌, subst, length, map, arith, append_assoc, length-append, ◌⊎◌, ℕ, ◌<◌, ◌^◌, true, zero, Bool, false, take, ◌==◌, drop, codes, Result, get_or, nat_le, nat_lt, ◌≢◌, bytes_eq}
pub use Rattle.std.proofs.lemmas.List.Elements.{All-append, All-cons, All-nil, All-head, All-tail, All-take, All-drop}
pub use Rattle.std.specs.{Char.is_ascii_digit, Char.is_ascii_lowercase, Fn.Shared, List.list_all, Option.option_copied, Str.IsUtf8}
pub use Rattle.std.specs.Prelude.{if◌then◌else◌, All, position, IfSome, Ok, Err, OnOk}
pub use Rattle.sha2.specs.{Sha256.sha256}
pub use Rattle.paw_base.specs.{declared.limits.TheConstants.LINE_LIMIT, declared.limits.TheConstants.IMAGE_LIMIT, declared.limits.TheConstants.EVENT_LIMIT}
pub use Rattle.paw_base.specs.Bytes.{Lines, Text, Texts, Name, Seed, Bytes, Line, RoutineAnswers}
pub use Rattle.paw_game.specs.{Game.GameLists, Valid.Valid}
pub use Rattle.paw_image.specs.{inner.Views.game_read}
pub use Rattle.paw_stage.proofs.{Time.Passes_map, Time.Passes_on, Time.Passes_none, Time.now_inside}
pub use Rattle.paw_stage.specs.{AcrossCalls.EachMoment, AcrossCalls.IsOneOf, AcrossCalls.FailsOnlyBy, Disk.IsStable, Disk.Disk, Disk.MayLeave, Disk.stable, Loads.load_calls, declared.Stage.Ghosts, declared.StageCall.StageCall, inner.Loads.LoadsSome}
pub use Rattle.paw_stage.specs.Stage.{Standing, file_bytes, IsCut, with_shown, InAsk, InShow, with_store_opened, Files, bytes_or_none, made_if_missing, Unattached, InAttach}
pub use Rattle.paw_routines.specs.{Routines.HaveAnswers, Routines.AreAnswersOf, declared.routines.Routines.Routines}
pub use Rattle.paw_effects.specs.{Standing.AreBytes, Story.Story, Story.story_of, declared.act.Prompt.Prompt}
pub use Rattle.paw_reading.proofs.{Counts.pieces_of_lines, Followed.going_on_is_reading, Past.longer_reading}
pub use Rattle.paw_reading.specs.{Bounds.IsLine, Bounds.ValidStory, Run.Run, Run.StepRow, declared.frames.Frame.Frame, declared.halt.Halt.Halt, inner.Longer.ending_with_past, inner.Longer.goes_on_with, inner.Pieces.Counted, inner.Turn.ending_followed}
pub use Rattle.paw_reading.specs.Turn.{Ending, WaitsAt, Halted, Unended, reading, pieces_of}
pub use Rattle.paw_state.specs.{State.last_piece}
pub use Rattle.paw_turn.proofs.{Standing.valid_story}
pub use Rattle.paw_turn.specs.{inner.Player.PlayerView, inner.Player.IsSeated}
pub use Rattle.paw_journal.proofs.{Disks.stable_leaves, Disks.stable_is, Moved.beside_same, Moved.beside_none, Moved.in_later, Moved.beside_on}
pub use Rattle.paw_journal.proofs.Serving.{in_front, serves_among, serves_then, behind, serves_still, serves_done, serves_none}
pub use Rattle.paw_journal.specs.{Journal.writing_calls, Session.IsUnmade, Session.Digests, Session.Recovered, Session.Shown, inner.Calls.ReadsStore, inner.Journal.IsAtRest, inner.Journal.failed_stage_call, inner.Store.ChangesStoreOnly}
unfoldable pub use Rattle.paw_journal.specs.{Session.recover, Session.recover_by}
pub use Rattle.paw_play.proofs.{Attaching.other_file, Failing.left_as_read, Going.whole_kept, ImageFiles.damage_loaded, ImageFiles.same_game, ImageFiles.holds_loaded, Standing.open_from, Standing.refuses_none, Standing.begun_keeps, Standing.later_keeps, Walking.drop_more, Walking.drop_all}
pub use Rattle.paw_play.specs.{Calls.session_calls, Calls.walk_calls, ImageFiles.Holds, Laws.ShowsSome, Laws.MayBeLeft, Session.story_digests, Session.IsOfStory, Session.IsKept, Session.IsPlayed, Stands.Stands, Stands.IsPlayedWith, Stands.ending_since, declared.PlayEnd.PlayEnd, declared.open.OpenSession.OpenSession, inner.Calls.DoneWithMoments, inner.Calls.call_of_end}
pub use Rattle.paw_play.specs.Played.{going_on, PlayedSession, from_shown, from_played, from_lines, from_state, session_begun}
pub use Rattle.paw_play.specs.inner.Open.{IsOpen, ResumesTo, BeginsTo, HaltsAfter, InBeginning, InTaking, KeepsAfter, StopsAtState, TakesLineTo, WaitsAfter, AreDigestsOf, StaysSeated}
pub use Rattle.paw_host.specs.{Outcomes.host_failure, declared.lines.TheConstants.HOST_LIMIT, declared.outcome.HostOutcome.HostOutcome, inner.Names.asks, inner.Opens.ReadsNoImage, inner.Opens.OpensNone, inner.Seats.IsHosted, inner.Store.Rests, inner.Store.IsAttachedStable, inner.Store.LeavesStage}
unfoldable pub use Rattle.paw_host.specs.{Laws.asked_of, Laws.answered_to, Laws.session_after, Laws.answers_of, Names.request_of, Promise.AttachedIn, Promise.attached_after, Replies.answer, Replies.sessions_after, Replies.replies}
pub use Rattle.paw_host.specs.Hosts.{HasTaken, Ends, Hosts, HostsFile, hosts, damaged, absent, failed, without_memory}
pub use Rattle.paw_host.specs.Laws.{asked_first, answered_first, EachPlaysAlone, PiecesAreAnswered, before_last, AfterCrash, as_before, as_after, at_no_lines, half_made, MayBeBegunAgain, NoFileIsLeftOut}
pub use Rattle.paw_host.specs.Names.{Request, is_name, store_name, line_split, split_at, request_in, is_name_byte}
pub use Rattle.paw_host.specs.Promise.{Stores, LeftOfMaking, MayBe, EachLeft, IsUpToDate, AllStore, AllLeft, IsNotOf, InHost, Answered, BeginsWith, attached_with, MayAttach}
pub use Rattle.paw_host.specs.Replies.{Absent, At, Sessions, Answer, gone_on, sessions_with, NamedSession, begun_answer, begun_with_text, answer_taking, From, Refused, from_end, reply_to, unless_closed, is_over, with_named_session, reply_text}
pub use Rattle.paw_host.specs.inner.Answers.{Answers, InFile, LeftOf, LeftOfBeginning, StoresEither, IsPlayedAs, after_lines, after_state, end_word, TakesTexts, IsAside, answer_calls, begun, ending_with, session_with, InAnswer, TakesText}
pub use Rattle.paw_host.specs.inner.Lines.{AllMay, AnswersRequest, Doing, IsDone, IsNotFor, InWork, IsServing, SameLines, ServesTo, TakesTo, HostsWithMoments, ServesLine}
