mod ReadAgain
