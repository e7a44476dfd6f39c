-- The classes of versions, alone and with their versions.
use Rattle.std.proofs.Common.{◌≡◌, ℕ, ◌+◌, List, [], ◌∷◌, map, Some, refl, ap, ◌∙◌}
use Rattle.std.specs.Prelude.{All, option_map}
use Rattle.std.proofs.lemmas.List.Elements.{All-nil, All-cons, All-head, All-tail}
use Rattle.sched_book.proofs.Settling.{nth-map}
use Rattle.sched_book.specs.Numbered.{map_from}
use Rattle.sched_book.specs.Places.{nth}
use Rattle.sched_book.specs.Sound.{IsSoundVersion}
use Rattle.sched_book.specs.declared.rows.App.{App}
use Rattle.sched_book.specs.declared.rows.Version.{Version}
use Rattle.table_decoding.specs.Decoding.{of_class, of_word}
use Rattle.texts.specs.Words.{IsWord}

pub class_stands : (vs : List Version) (id : ℕ) (v : Version) → nth vs id ≡ Some v → nth (map (λ (x : Version). x.class) vs) id ≡ Some v.class
class_stands vs id v stands = nth-map (λ (x : Version). x.class) vs id ∙ ap (option_map (λ (x : Version). x.class)) stands

words_from : (n : ℕ) (vs : List Version) → map_from n of_class vs ≡ map_from n of_word (map (λ (x : Version). x.class) vs)
words_from n [] = refl
words_from n (v ∷ vs) = ap (λ rows. of_class n v ∷ rows) (words_from (n + 1) vs)

-- the rows of the classes are the rows of these words
pub as_words : (vs : List Version) → map_from 1 of_class vs ≡ map_from 1 of_word (map (λ (x : Version). x.class) vs)
as_words vs = words_from 1 vs

-- each class is a word
pub are_words : (apps : List App) (vs : List Version) → All (IsSoundVersion apps) vs → All IsWord (map (λ (x : Version). x.class) vs)
are_words apps [] all = All-nil IsWord
are_words apps (v ∷ vs) all =
    let sound : IsSoundVersion apps v = All-head (IsSoundVersion apps) v vs all in
    All-cons IsWord v.class (map (λ (x : Version). x.class) vs) sound.limits.class (are_words apps vs (All-tail (IsSoundVersion apps) v vs all))
