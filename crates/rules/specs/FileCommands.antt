-- Document 01, "Order of judgement for a command", step 7: SELECT, READ RECORD, READ BINARY and GET RESPONSE.
use Rattle.std.specs.Prelude.{ℕ, ◌-◌, cond, not, ◌&&◌, List, length, take, drop, eqb, leb, ltb}
use Rattle.octets.specs.Octets.{Bytes, byte_at, word, member}
use Rattle.rules.specs.declared.Code.{Code}
use Rattle.rules.specs.declared.Profile.{Profile}
use Rattle.rules.specs.declared.Session.{Session}
use Rattle.rules.specs.declared.Header.{Header}
use Rattle.rules.specs.Session.{root, esteid_directory, no_file, held_bytes, with_selection, with_held, drop_held}
use Rattle.rules.specs.Files.{files_in, certificate_file, certificate_of, record_count, record_of}
use Rattle.rules.specs.Answers.{SessionStep, response, session_status, give, more_bytes}

-- A4 SELECT. P1 00: root. P1 01: EEEEh from the root. P1 02: a file of the current directory. Else 6A82 and the selection stays.
-- Choosing a directory clears the current file.
unfoldable pub select : Session → Header → Bytes → SessionStep
select s h d =
    let name = word (byte_at d 0) (byte_at d 1) in
    let directory = s.selection.directory in
    cond (eqb h.p1 0x00) (session_status (with_selection s root no_file) 0x9000)
    (cond (eqb h.p1 0x01 && (eqb directory root && eqb name esteid_directory))
    (session_status (with_selection s esteid_directory no_file) 0x9000)
    (cond (eqb h.p1 0x02 && member name (files_in directory)) (session_status (with_selection s directory name) 0x9000)
    (session_status s 0x6A82)))

-- B2 READ RECORD. No file 6986; certificate 6981; beyond the last 6A83; else the record is the data.
unfoldable pub read_record : List Code → Profile → Session → Header → SessionStep
read_record codes profile s h =
    let file = s.selection.file in
    cond (eqb file no_file) (session_status s 0x6986)
    (cond (certificate_file file) (session_status s 0x6981)
    (cond (ltb (record_count file) h.p1) (session_status s 0x6A83)
    (give s h.le (record_of codes profile file h.p1))))

-- 02, wish 2. Le from 1 to 255 greater than what remains: 6282, the end of the file reached before Le bytes. Else 9000: Le at most
-- what remains; or Le 00, which means 256, whatever remains.
unfoldable pub read_status : ℕ → ℕ → ℕ
read_status le remains = cond (leb le 255 && ltb remains le) 0x6282 0x9000

-- B0 READ BINARY, offset P1P2. No file 6986; record file 6981; offset at or past the size 6B00.
-- Gives the smaller of Le and what remains; 9000 or 6282.
unfoldable pub read_binary : Session → Header → Bytes → Bytes → SessionStep
read_binary s h authentication signature =
    let file = s.selection.file in
    let offset = word h.p1 h.p2 in
    let certificate = certificate_of file authentication signature in
    let remaining = drop offset certificate in
    cond (eqb file no_file) (session_status s 0x6986)
    (cond (not (certificate_file file)) (session_status s 0x6981)
    (cond (leb (length certificate) offset) (session_status s 0x6B00)
    (record { session = s; answer = response (take h.le remaining) (read_status h.le (length remaining)) })))

-- C0 GET RESPONSE. Nothing held 6985. Gives the smaller of Le and held; 9000, or 61 and the rest.
unfoldable pub get_response : Session → Header → SessionStep
get_response s h =
    let held = held_bytes s in
    cond (eqb (length held) 0) (session_status (drop_held s) 0x6985)
    (cond (leb (length held) h.le)
    (record { session = drop_held s; answer = response held 0x9000 })
    (record {
      session = with_held s (drop h.le held);
      answer = response (take h.le held) (more_bytes (length held - h.le));
    }))
