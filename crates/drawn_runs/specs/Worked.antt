-- What is drawn, by computing.
use Rattle.std.proofs.Common.{◌≡◌, ◌*◌, ◌%◌, [], ◌∷◌, ◌++◌, length, refl, ap, ◌∙◌, lit<, lit≤}
use Rattle.std.specs.Prelude.{codes, decimal}
use Rattle.std.proofs.lemmas.Fmt.{decimal_digit, decimal_step}
use Rattle.schedule.specs.declared.item.Item2.{Item2}
use Rattle.drawn_runs.specs.Drawing.{draw, reached}
use Rattle.drawn_runs.specs.Messages.{addition, edit, get, line_end, message}
use Rattle.drawn_runs.specs.Rounds.{drawings_of_a_round, in_order, request, turn, turns}
use Rattle.drawn_runs.specs.declared.rounds.TheConstants.{DRAWN_WORKERS, ROUNDS, STEPS_AHEAD, TURNS}

first_number : reached 1 1 ≡ 7806831264735756412
unfolding reached
first_number = refl

second_number : reached 1 2 ≡ 9396908728118811419
unfolding reached
second_number = refl

first_draws : draw 1 0 ∷ draw 1 1 ∷ draw 1 2 ∷ draw 1 3 ∷ draw 1 4 ∷ draw 1 5 ∷ draw 1 6 ∷ draw 1 7 ∷ draw 1 8 ∷ []
    ≡ 908834774 ∷ 1093944153 ∷ 1392341196 ∷ 822192870 ∷ 1708211034 ∷ 1074839795 ∷ 1189567130 ∷ 140486902 ∷ 1803298089 ∷ []
unfolding reached
first_draws = refl

-- nothing is kept of the number's own size
greatest_number : draw 18446744073709551615 0 ≡ 1574552488
unfolding reached
greatest_number = refl

root_page : message 0 1 ≡ codes "GET / HTTP/1.0" ++ 13 ∷ 10 ∷ 13 ∷ 10 ∷ []
root_page = refl

start_page : length (message 1 1) ≡ 28
start_page = refl

-- the decimal texts of some lengths and numbers
six : decimal 6 ≡ codes "6"
six = decimal_digit 6 (lit< tt)

seven : decimal 7 ≡ codes "7"
seven = decimal_digit 7 (lit< tt)

twelve : decimal 12 ≡ codes "12"
twelve = decimal_step 12 (lit≤ tt) (lit< tt) ∙ ap (λ front. front ++ 50 ∷ []) (decimal_digit 1 (lit< tt))

fourteen : decimal 14 ≡ codes "14"
fourteen = decimal_step 14 (lit≤ tt) (lit< tt) ∙ ap (λ front. front ++ 52 ∷ []) (decimal_digit 1 (lit< tt))

sixteen : decimal 16 ≡ codes "16"
sixteen = decimal_step 16 (lit≤ tt) (lit< tt) ∙ ap (λ front. front ++ 54 ∷ []) (decimal_digit 1 (lit< tt))

hundred_and_sixty : decimal 160 ≡ codes "160"
hundred_and_sixty = decimal_step 160 (lit≤ tt) (lit< tt) ∙ ap (λ front. front ++ 48 ∷ []) sixteen

edit_is : message 2 1 ≡ codes "POST /index_html/manage_edit HTTP/1.1" ++ line_end ++ codes "Host: localhost" ++ line_end
    ++ codes "Authorization: Basic YWRtaW46c2VjcmV0" ++ line_end ++ codes "Content-Length: 6" ++ line_end ++ line_end ++ codes "data=x"
edit_is = rw six refl

edit_long : length edit ≡ 122
edit_long = rw six refl

addition_is : message 3 7 ≡ codes "POST /manage_addDTMLDocument HTTP/1.1" ++ line_end ++ codes "Host: localhost" ++ line_end
    ++ codes "Authorization: Basic YWRtaW46c2VjcmV0" ++ line_end ++ codes "Content-Length: 12" ++ line_end ++ line_end ++ codes "id=d7&file=f"
addition_is = rw seven (rw twelve refl)

last_addition : message 3 160 ≡ codes "POST /manage_addDTMLDocument HTTP/1.1" ++ line_end ++ codes "Host: localhost" ++ line_end
    ++ codes "Authorization: Basic YWRtaW46c2VjcmV0" ++ line_end ++ codes "Content-Length: 14" ++ line_end ++ line_end ++ codes "id=d160&file=f"
last_addition = rw hundred_and_sixty (rw fourteen refl)

-- the first two requests of the run of 1: 908834774 is 2 modulo 4, and 1093944153 is 1
first_request : request 1 0 0 ≡ Item2.Request 0 edit
unfolding reached
first_request = refl

second_request : request 1 0 1 ≡ Item2.Request 1 (get (codes "/index_html"))
unfolding reached
second_request = refl

-- 1803298089 is 1 modulo 8
first_ahead : draw 1 8 % 8 ≡ 1
unfolding reached
first_ahead = refl

turn_is : turn ≡ Item2.Step 0 ∷ Item2.Step 1 ∷ Item2.Step 2 ∷ Item2.Step 3 ∷ Item2.Step 4 ∷ Item2.Step 5 ∷ Item2.Step 6 ∷ Item2.Step 7 ∷ []
unfolding in_order
turn_is = refl

-- twenty rounds; in each eight workers have a request, one makes a hundred steps ahead, and each has eighty turns
numbers_of_a_run : ROUNDS ∷ DRAWN_WORKERS ∷ STEPS_AHEAD ∷ TURNS ∷ [] ≡ 20 ∷ 8 ∷ 100 ∷ 80 ∷ []
numbers_of_a_run = refl

turns_long : length turns ≡ 640
unfolding in_order
turns_long = refl

-- the third request of the third round is request 19, and the last one of all is request 160
third_round : request (reached 1 (drawings_of_a_round * 2)) 2 2 ≡ Item2.Request 2 (addition 19)
unfolding reached
third_round = refl

last_request : request (reached 1 (drawings_of_a_round * 19)) 19 7 ≡ Item2.Request 7 (addition 160)
unfolding reached
last_request = refl
