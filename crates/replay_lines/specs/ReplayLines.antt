-- Rule. A line of a replay, and the message of HTTP that it becomes. A line is INSTANT, one space and a word. If it has a body, one space
-- and the body follow. (This profile.)
use Rattle.std.specs.Prelude.{ℕ, ◌+◌, ◌==◌, if◌then◌else◌, List, [], ◌∷◌, ◌++◌, codes, take, drop, Option, Some, None, option_and_then, option_map, unwrap_or, position}
use Rattle.std.specs.Str.{bytes_eq}
use Rattle.texts.specs.Words.{is_word, word_of}
use Rattle.serde_json.specs.Find.{as_str}
use Rattle.rpc_records.specs.Reading.{json_of}
use Rattle.http_requests.specs.Requests.{call_request, import_request, tick_request, statement_request}
use Rattle.instants.specs.Instants.{moment_of}
use Rattle.replay_lines.specs.declared.line.Line.{Line}

-- the bytes that separate the words of a line, and the parts of a word
abbrev pub space : ℕ
space = 32

abbrev pub slash : ℕ
slash = 47

-- what comes before the first of these bytes, or all of it
abbrev pub first_part : ℕ → List ℕ → List ℕ
first_part separator text = unwrap_or (option_map (λ at. take at text) (position (λ byte. byte == separator) text)) text

-- what comes after the first of these bytes, if there is one
abbrev pub second_part : ℕ → List ℕ → Option (List ℕ)
second_part separator text = option_map (λ at. drop (at + 1) text) (position (λ byte. byte == separator) text)

-- the text of the import of one account, whose name is its authenticator
abbrev pub account_rows : List ℕ → List ℕ
account_rows name = codes "authenticator,name" ++ 10 ∷ (name ++ 44 ∷ (name ++ 10 ∷ []))

-- `account` needs a word, and is the import of that account in a batch of the same name
abbrev pub account_line : List ℕ → Option (List ℕ) → Option (List ℕ)
account_line key None = None
account_line key (Some name) = if is_word name then Some (import_request key (codes "accounts") name (account_rows name)) else None

-- the text of a JSON string (RFC 8259)
abbrev pub text_told : List ℕ → Option (List ℕ)
text_told body = option_and_then as_str (json_of body)

-- an import, if its kind, its name and its text are given
abbrev pub import_by : List ℕ → Option (List ℕ) → Option (List ℕ) → Option (List ℕ) → Option (List ℕ)
import_by key None batch text = None
import_by key (Some kind) None text = None
import_by key (Some kind) (Some batch) None = None
import_by key (Some kind) (Some batch) (Some text) = Some (import_request key kind batch text)

-- `import/KIND/BATCH` needs two words, and a JSON string with the text
abbrev pub import_line : List ℕ → Option (List ℕ) → Option (List ℕ) → Option (List ℕ)
import_line key None body = None
import_line key (Some names) body =
    import_by key (word_of (first_part slash names)) (option_and_then word_of (second_part slash names)) (option_and_then text_told body)

-- `hosts/ID` needs a word, and has neither a body nor a space for one
abbrev pub hosts_line : List ℕ → Option (List ℕ) → Option (List ℕ) → Option (List ℕ)
hosts_line key host None = option_map (statement_request key) (option_and_then word_of host)
hosts_line key host (Some body) = None

-- `tick` has neither a body nor a space for one
abbrev pub tick_line : List ℕ → Option (List ℕ) → Option (List ℕ)
tick_line key None = Some (tick_request key)
tick_line key (Some body) = None

-- `scheduler` takes any bytes, and none if it has no body
abbrev pub message_by : List ℕ → List ℕ → Option (List ℕ) → Option (List ℕ)
message_by key word body =
    if bytes_eq word (codes "account") then account_line key body
    else (if bytes_eq word (codes "scheduler") then Some (call_request (unwrap_or body []))
    else (if bytes_eq word (codes "tick") then tick_line key body
    else (if bytes_eq (first_part slash word) (codes "import") then import_line key (second_part slash word) body
    else (if bytes_eq (first_part slash word) (codes "hosts") then hosts_line key (second_part slash word) body
    else None))))

abbrev pub message_of : List ℕ → List ℕ → Option (List ℕ)
message_of key text = message_by key (first_part space text) (second_part space text)

abbrev pub line_at : Option ℕ → Option (List ℕ) → Option Line
line_at None message = None
line_at (Some now) None = None
line_at (Some now) (Some message) = Some (record { now = now; message = message })

-- the message of a line and its moment, if the line has this form; an operator's message has this key
abbrev pub line_of : List ℕ → List ℕ → Option Line
line_of key text = line_at (moment_of (first_part space text)) (option_and_then (message_of key) (second_part space text))
