-- Which events are left when each failed attempt is struck out, in short lists: computed, as one table. A message is given by what it
-- is heard as.
-- Assumes nothing.
use Prim.Native.Nat.{ℕ}
use mathlib.Core.Path.{◌≡◌, refl}
use mathlib.Core.List.{List, [], ◌∷◌, map}
use mathlib.Core.Option.{none, some, Option-elim}
use Rattle.octets.specs.Words.{begins, same}
use Rattle.octets.specs.Split.{has}
use Rattle.octets.specs.Append.{width_from, number_text}
use Rattle.octets.specs.Decimal.{last_digits}
use Rattle.sdp.specs.Lines.{is_plain, all_plain}
use Rattle.sdp.specs.Written.{line_text, lines_text}
use Rattle.address.specs.declared.Address.TheVariants.{V4}
use Rattle.address.specs.Kinds.{is_unicast}
use Rattle.address.specs.Canonical.{each_after, joined, dotted_numbers, address_text, ipv4_text}
use Rattle.media.specs.Stream.{media_text, attribute_text, rtpmap_text, fmtp_text, ptime_text, rtpmap_lines, fmtp_lines, octets_together, attributes_fit}
use Rattle.ipbcp.specs.Types.{type_word}
use Rattle.ipbcp.specs.Writing.{family_word, host_text, origin_text, connection_text, ipbcp_text, ptime_lines, stream_lines, content_type, media_lines, message_lines, message_text, is_token, all_texts_plain, right_media, right_attributes, right_content, message_octets}
use Rattle.configuration.specs.Configuration.{Configuration, fixed, named, entry_in, suits, name_of, names, named_in, ptime_none_or_in_range}
use Rattle.book.specs.Strike.{events_of, kept_of, sheet_of}
use Rattle.bearer.specs.Bearer.{Bearer}
use Rattle.bearer.specs.Hearing as hears
use Rattle.bearer.specs.Hearing.{Heard}
use Rattle.bearer.specs.Judging.{audio, rtp_avp, same_family, same_address, offered, commanded, unmoved, right_stream, right_request, nearest, restated, granted, accepted_for, same_offer, unmoved_address, right_accepted}
use Rattle.endpoint.specs.Rule.{Book, Verdict, Event, set_up, change, release, t1, t2, message_verdict, event_verdict}

-- document 01's configuration, with one more codec, a named one
abbrev config : Configuration
config = record {
  own = V4 3221225994;
  port = 4000;
  least = 10;
  most = 40;
  t1 = 5;
  t2 = 5;
  codecs = fixed 8 ∷ named (65 ∷ 77 ∷ 82 ∷ 47 ∷ 56 ∷ 48 ∷ 48 ∷ 48 ∷ []) ∷ [];
}

-- an event, or a message by what it is heard as
data Heard_event : Type 0 where
  given : Event → Heard_event
  hear : Heard → Heard_event

abbrev verdict : Book → Heard_event → Verdict
verdict k (given e) = event_verdict config k e
verdict k (hear h) = message_verdict config k h

abbrev left : List Heard_event → List Heard_event
left es = events_of (kept_of verdict es)

-- a bearer to 192.0.2.20, port 5000, with this payload
abbrev peer : ℕ → Bearer
peer payload = record {
  address = V4 3221226004;
  stream = record { media = audio; port = 5000; transport = rtp_avp; payload = payload; rtpmap = []; fmtp = []; ptime = 20 };
}

abbrev U : Heard_event
U = given (set_up 1 8 20)

abbrev C : Heard_event
C = given (change 1 8 0)

abbrev X : Heard_event
X = given release

abbrev T1 : Heard_event
T1 = given t1

abbrev T2 : Heard_event
T2 = given t2

-- a right Request, a wrong one, one that can't be read to its end, and one of another version
abbrev request : Heard_event
request = hear (hears.request_heard (some (peer 8)))

abbrev wrong_request : Heard_event
wrong_request = hear (hears.request_heard (some (peer 9)))

abbrev bad_request : Heard_event
bad_request = hear (hears.request_heard none)

abbrev other_request : Heard_event
other_request = hear hears.other_version_heard

-- a right Accepted, one with another payload, and a Rejected or Confused
abbrev accepted : Heard_event
accepted = hear (hears.accepted_heard (some (peer 8)))

abbrev wrong_accepted : Heard_event
wrong_accepted = hear (hears.accepted_heard (some (peer 9)))

abbrev declined : Heard_event
declined = hear hears.decline_heard

-- (events given, events left)
cases : List (List Heard_event × List Heard_event)
cases =
    -- document 01's trace: the release comes to an idle endpoint, is refused, and so stays
    (U ∷ T1 ∷ X ∷ [], X ∷ [])
    -- a release strikes an open set-up and is struck with it
    ∷ (U ∷ T2 ∷ X ∷ [], [])
    -- a release strikes an open change and stays, at R and at I
    ∷ (request ∷ C ∷ T1 ∷ X ∷ [], request ∷ X ∷ [])
    ∷ (U ∷ accepted ∷ C ∷ X ∷ [], U ∷ accepted ∷ X ∷ [])
    -- a Request at R during our change: a right one cancels the change and stays
    ∷ (request ∷ C ∷ request ∷ [], request ∷ request ∷ [])
    ∷ (request ∷ C ∷ other_request ∷ request ∷ X ∷ [], request ∷ request ∷ X ∷ [])
    -- a wrong one, and one that can't be read, is struck with the change
    ∷ (request ∷ C ∷ wrong_request ∷ T2 ∷ [], request ∷ T2 ∷ [])
    ∷ (request ∷ C ∷ bad_request ∷ [], request ∷ [])
    -- one of another version is struck alone, and the change goes on
    ∷ (request ∷ C ∷ other_request ∷ accepted ∷ [], request ∷ C ∷ accepted ∷ [])
    -- a Confused between a command and its answer ends the attempt; the answer is then discarded, and stays
    ∷ (U ∷ declined ∷ accepted ∷ [], accepted ∷ [])
    -- T1 left over from a failed set-up does not end a change
    ∷ (U ∷ declined ∷ request ∷ C ∷ T1 ∷ accepted ∷ [], request ∷ C ∷ T1 ∷ accepted ∷ [])
    -- at I a Request is discarded while a change is awaited, and is struck with the change if that fails
    ∷ (U ∷ accepted ∷ C ∷ request ∷ T2 ∷ [], U ∷ accepted ∷ [])
    -- what is discarded or refused during an attempt that succeeds stays
    ∷ (U ∷ request ∷ U ∷ accepted ∷ [], U ∷ request ∷ U ∷ accepted ∷ [])
    -- a wrong Accepted ends the attempt
    ∷ (U ∷ accepted ∷ C ∷ wrong_accepted ∷ accepted ∷ X ∷ [], U ∷ accepted ∷ accepted ∷ X ∷ [])
    -- a Request that is rejected is struck alone if no attempt is open
    ∷ (wrong_request ∷ request ∷ bad_request ∷ [], request ∷ [])
    -- an attempt that is open at the end stays
    ∷ (U ∷ T2 ∷ [], U ∷ T2 ∷ [])
    ∷ []

struck_right : map (λ (p : List Heard_event × List Heard_event). left p.0) cases ≡ map (λ (p : List Heard_event × List Heard_event). p.1) cases
unfolding Option-elim each_after joined dotted_numbers cases sheet_of commanded entry_in suits name_of names named_in ptime_none_or_in_range offered same_family same_address unmoved right_stream right_request nearest restated granted accepted_for same_offer unmoved_address right_accepted same begins has width_from number_text last_digits is_plain all_plain line_text lines_text is_unicast address_text ipv4_text media_text attribute_text rtpmap_text fmtp_text ptime_text rtpmap_lines fmtp_lines octets_together attributes_fit type_word family_word host_text origin_text connection_text ipbcp_text ptime_lines stream_lines content_type media_lines message_lines message_text is_token all_texts_plain right_media right_attributes right_content message_octets
struck_right = refl
